use Rattle.std.proofs.Common.{◌≡◌, [], fold, drop}
use Rattle.interchange_io.specs.WrittenOrder.{with_sorted}
use Rattle.interchange_io.proofs.sorted.sorted_books.Given as goal

abbrev pub invariant-each : goal.invariant-each
invariant-each l = fold with_sorted l.sorted.entries (drop l.key-index l.books) ≡ fold with_sorted [] l.books
