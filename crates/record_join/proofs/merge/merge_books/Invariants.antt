use Rattle.std.proofs.Common.{take}
use Rattle.protect_record.specs.Pasts.{with_book}
use Rattle.record_join.specs.KeyByKey.{TakesBook}
use Rattle.record_join.proofs.FileLemmas.{GoesOn}
use Rattle.record_join.proofs.merge.merge_books.Given as goal

abbrev pub invariant-books : goal.invariant-books
invariant-books l = GoesOn TakesBook with_book l.fn.kept.entries (take l.listed-index l.books) l.kept.entries
