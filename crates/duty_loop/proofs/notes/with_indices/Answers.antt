use Rattle.duty_loop.proofs.NoteLemmas.{asked_step}
use Rattle.duty_loop.proofs.notes.with_indices.Goals as goal

pub keys-preserved : goal.keys-preserved
keys-preserved c = asked_step c.args.indices.now.entries c.args.keys.now c.keys.key-index _ c.keys.asked.items c.push_asked.new.asked.items c.asked_key.result _ c.keys-test.true c.asked_key.ensures c.in_ok-push_asked.ensures c.keys.invariant
