use Rattle.std.proofs.Common.{take}
use Rattle.record_join.specs.Preparing.{IsReady, book_size}
use Rattle.record_join.proofs.merge.prepare_books.Given as goal

abbrev pub invariant-books : goal.invariant-books
invariant-books l = IsReady book_size l.fn.kept.entries (take l.listed-index l.books) l.fresh.items l.kept.entries
