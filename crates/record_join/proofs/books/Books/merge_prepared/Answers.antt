use Rattle.std.proofs.Common.{sym, subst, List}
use Rattle.edge_kit.specs.declared.bytes.PubKey.{PubKey}
use Rattle.protect_record.specs.Parts.{Parts}
use Rattle.protect_record.specs.Pasts.{with_book}
use Rattle.record_join.specs.Preparing.{HaveRoomFor, IsPrepared, book_size}
use Rattle.record_join.specs.KeyByKey.{TakesBook}
use Rattle.record_join.proofs.TakeLemmas.{taken_all, takes_book_from}
use Rattle.record_join.proofs.FileLemmas.{all_gained}
use Rattle.record_join.proofs.books.Books.merge_prepared.Goals as goal

pub merge_books-requires-clause-room : goal.merge_books-requires-clause-room
merge_books-requires-clause-room c =
    let P : List (PubKey × Parts) → Type 0 = λ l. HaveRoomFor book_size l c.args.listed.now in
    subst P (sym c.self.view_is) c.requires.ready.2.room

pub returns-clause-each : goal.returns-clause-each
returns-clause-each c = λ before fresh ready.
    let P : List (PubKey × Parts) → Type 0 = λ l. IsPrepared before c.args.listed.now fresh l in
    taken_all TakesBook takes_book_from before _ _ c.args.listed.now fresh (subst P (sym c.self.view_is) ready).prepared c.merge_books.ensures.each

pub returns-clause-stands : goal.returns-clause-stands
returns-clause-stands c = λ before fresh pasts ready stand.
    let P : List (PubKey × Parts) → Type 0 = λ l. IsPrepared before c.args.listed.now fresh l in
    let is = (subst P (sym c.self.view_is) ready).prepared in
    all_gained with_book before _ _ c.args.listed.now fresh pasts is.same is.absent is.are_listed c.merge_books.ensures.stands stand
