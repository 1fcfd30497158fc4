use Rattle.std.proofs.Common.{◌≡◌, ◌+◌, ◌*◌, ◌≤◌, length, drop}
use Rattle.slash_defs.specs.Lists.{unsafe_pairs}
use Rattle.slash_defs.proofs.lists.conflict_pairs.Given as goal

abbrev pub invariant-loop-i : goal.invariant-loop-i
invariant-loop-i l = (l.pairs + unsafe_pairs (drop l.i l.list) ≡ unsafe_pairs l.list) × (l.pairs ≤ l.i * length l.list)
