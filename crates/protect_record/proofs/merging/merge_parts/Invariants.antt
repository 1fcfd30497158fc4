use Rattle.std.proofs.Common.{◌+◌}
use Rattle.protect_record.proofs.MergeLemmas.{IsMerging}
use Rattle.protect_record.proofs.merging.merge_parts.Given as goal

abbrev pub invariant-loop-right : goal.invariant-loop-right
invariant-loop-right g l = IsMerging g.T.Ord.cmp l.fn.list l.list l.count l.more l.left l.right

abbrev pub decreases-loop-right : goal.decreases-loop-right
decreases-loop-right g l = l.right + l.left
