use Rattle.std.proofs.Common.{◌≡◌, length, take}
use Rattle.desk_parts.specs.Weights.{desk_weight}
use Rattle.desk_parts.proofs.weighing.weigh.Given as goal

abbrev pub invariant-keys : goal.invariant-keys
invariant-keys l = l.weight ≡ desk_weight (take (length l.yielded) l.books)
