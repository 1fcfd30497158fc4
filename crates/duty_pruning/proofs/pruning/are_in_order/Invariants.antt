use Rattle.std.proofs.Common.{◌≡◌, None, drop}
use Rattle.duty_pruning.specs.Pruning.{are_in_order}
use Rattle.duty_pruning.proofs.pruning.are_in_order.Given as goal

abbrev pub invariant-loop-listed : goal.invariant-loop-listed
invariant-loop-listed l = are_in_order l.before (drop l.listed-index l.books) ≡ are_in_order None l.books
