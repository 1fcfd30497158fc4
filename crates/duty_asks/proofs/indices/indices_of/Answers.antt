use Rattle.duty_asks.proofs.IndexLemmas.{index_step}
use Rattle.duty_asks.proofs.indices.indices_of.Goals as goal

pub keys-preserved : goal.keys-preserved
keys-preserved c = index_step c.args.indices.now.entries c.args.keys.now c.keys.key-index _ c.keys.found.items c.push_index.new.found.items c.index_of.result _ c.keys-test.true c.index_of.ensures c.in-Ok.ensures c.keys.invariant
