use Rattle.std.proofs.Common.{ap}
use Rattle.duty_schedule.specs.declared.answer.Basis.{Basis}
use Rattle.duty_schedule.proofs.LawLemmas.{changes_nothing, due_once, replaces}
use Rattle.duty_schedule.proofs.law.schedule_law.Goals as goal

pub returns : goal.returns
returns c = record {
  another_root = λ answers a basis kept is apart. replaces answers a basis kept is (λ e. apart (ap (λ (b : Basis). b.dependent_root) e));
  other_indices = λ answers a basis kept is apart. replaces answers a basis kept is (λ e. apart (ap (λ (b : Basis). b.asked) e));
  same = λ answers a is. changes_nothing answers a is;
  one = λ answers slot active one two a b. due_once answers slot active one two a b;
}
