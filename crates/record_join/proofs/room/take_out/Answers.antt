use Rattle.record_join.proofs.FreshLemmas.{way_on}
use Rattle.record_join.proofs.room.take_out.Goals as goal

pub fresh-preserved-in-Some : goal.fresh-preserved-in-Some
fresh-preserved-in-Some c = way_on _ _ _ _ _ _ _ c.fresh.invariant c.in-Some.ensures.items c.remove.ensures.entries c.remove.ensures.updates.2

pub fresh-preserved : goal.fresh-preserved
fresh-preserved c = way_on _ _ _ _ _ _ _ c.fresh.invariant c.in-Some.ensures.items c.remove.ensures.entries c.remove.ensures.updates.2
