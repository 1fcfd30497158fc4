use Rattle.std.proofs.Common.{sym, ◌∙◌}
use Rattle.duty_schedule.proofs.HeldLemmas.{attesters_none, newest_none, proposers_none}
use Rattle.duty_schedule.proofs.schedule.Schedule.new.Goals as goal

pub returns : goal.returns
returns c = record {
  newest = sym newest_none;
  proposers = λ epoch kept. c.new.ensures 0 epoch ∙ sym (proposers_none epoch);
  attesters = λ epoch kept. c.new-2.ensures 0 epoch ∙ sym (attesters_none epoch);
}
