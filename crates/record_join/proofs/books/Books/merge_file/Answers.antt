use Rattle.protect_record.specs.Pasts.{with_book}
use Rattle.record_join.specs.Preparing.{book_size}
use Rattle.record_join.proofs.FileLemmas.{all_gained, length_after}
use Rattle.record_join.specs.KeyByKey.{TakesBook}
use Rattle.record_join.proofs.TakeLemmas.{taken_all, takes_book_from}
use Rattle.record_join.proofs.books.Books.merge_file.Goals as goal

pub returns-clause-merged : goal.returns-clause-merged
returns-clause-merged c =
    let is = c.in_ok-prepare_books.ensures.ready.prepared in
    rw (← c.self.view_is, ← c.as_slice-books.ensures) (λ pasts stand. all_gained with_book _ _ _ _ _ pasts is.same is.absent is.are_listed c.merge_books.ensures.stands stand)

pub returns-clause-len : goal.returns-clause-len
returns-clause-len c = rw (← c.self.view_is, ← c.as_slice-books.ensures) (length_after book_size _ _ _ _ _ c.in_ok-prepare_books.ensures.ready c.merge_books.ensures.len)

pub returns-clause-each : goal.returns-clause-each
returns-clause-each c = rw (← c.self.view_is, ← c.as_slice-books.ensures) (taken_all TakesBook takes_book_from _ _ _ _ _ c.in_ok-prepare_books.ensures.ready.prepared c.merge_books.ensures.each)
