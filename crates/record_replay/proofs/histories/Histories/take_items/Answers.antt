use Rattle.record_replay.proofs.GatherLemmas.{gathered_next}
use Rattle.record_replay.proofs.histories.Histories.take_items.Goals as goal

pub loop-item-preserved : goal.loop-item-preserved
loop-item-preserved c = λ before first.
    gathered_next before c.args.items.now c.loop-item.item-index _ c.loop-item.self.keys.entries _ c.loop-item.self.states.entries _ c.loop-item.self.watches.entries _ c.loop-item-test.true
    (c.loop-item.invariant before first) c.in_ok-take_key.ensures c.in_ok-take_state.ensures c.in_ok-take_watch.ensures
