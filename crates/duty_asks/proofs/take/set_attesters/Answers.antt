use Rattle.duty_asks.proofs.PlaceLemmas.{attesters_placed}
use Rattle.duty_asks.proofs.take.set_attesters.Goals as goal

pub returns : goal.returns
returns c = λ s h f. attesters_placed _ c.args.epoch c.args.indices c.args.answer c.in-Attester.dependent_root c.in-Attester.rows s c.in-Attester.is f h.places (record {
  slot = h.is.slot;
  fork = h.is.fork;
  indices = h.is.indices;
  schedule = c.take_answer.ensures.stands s.answers h.is.schedule;
  active = h.is.active;
  renewed = h.is.renewed;
})
