use Rattle.protect_record.specs.Pasts.{with_book}
use Rattle.record_join.specs.KeyByKey.{TakesBook}
use Rattle.record_join.specs.Preparing.{book_size}
use Rattle.record_join.proofs.FileLemmas.{distinct_once, goes_more, room_next}
use Rattle.record_join.proofs.merge.merge_books.Goals as goal

pub merge_at-requires : goal.merge_at-requires
merge_at-requires c = room_next TakesBook with_book book_size _ _ _ _ c.listed-item.result (distinct_once _ c.requires.once) c.books-test.true c.listed-item.is c.books.invariant c.requires.room

pub books-preserved : goal.books-preserved
books-preserved c =
    goes_more TakesBook with_book (λ p x q takes. takes.stands) _ _ _ _ _ _ (distinct_once _ c.requires.once) c.books-test.true c.listed-item.is c.books.invariant c.merge_at.ensures.takes c.merge_at.ensures.ordered c.merge_at.ensures.len
