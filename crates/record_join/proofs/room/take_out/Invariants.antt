use Rattle.std.proofs.Common.{vec_len}
use Rattle.record_join.proofs.FreshLemmas.{IsOnTheWay}
use Rattle.record_join.proofs.room.take_out.Given as goal

abbrev pub invariant-fresh : goal.invariant-fresh
invariant-fresh l = IsOnTheWay l.fn.fresh.items l.fn.kept.entries l.fresh.items l.kept.entries

abbrev pub decreases-fresh : goal.decreases-fresh
decreases-fresh l = vec_len l.fresh
