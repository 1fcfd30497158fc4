use Rattle.std.proofs.Common.{◌≡◌, take}
use Rattle.duty_pruning.specs.Pruning.{pruning_books}
use Rattle.duty_pruning.proofs.pruning.pruning_books.Given as goal

abbrev pub invariant-loop-listed : goal.invariant-loop-listed
invariant-loop-listed l = l.kept.items ≡ pruning_books l.few l.from (take l.listed-index l.books)
