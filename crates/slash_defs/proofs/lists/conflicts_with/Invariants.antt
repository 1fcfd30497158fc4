use Rattle.std.proofs.Common.{◌≡◌, ◌≤◌, take, count_by}
use Rattle.slash_defs.specs.Lists.{is_unsafe}
use Rattle.slash_defs.proofs.lists.conflicts_with.Given as goal

abbrev pub invariant-loop-other : goal.invariant-loop-other
invariant-loop-other l = (l.count ≡ count_by (is_unsafe l.first) (take l.other-index l.later)) × (l.count ≤ l.other-index)
