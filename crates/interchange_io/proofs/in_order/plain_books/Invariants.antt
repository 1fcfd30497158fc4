use Rattle.std.proofs.Common.{◌≡◌, ◌++◌}
use Rattle.interchange_io.proofs.in_order.plain_books.Given as goal

abbrev pub invariant-each : goal.invariant-each
invariant-each l = l.books.items ++ l.key-iterator ≡ l.sorted.entries
