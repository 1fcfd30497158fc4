use Rattle.std.proofs.Common.{List, subst}
use Rattle.edge_kit.specs.declared.bytes.PubKey.{PubKey}
use Rattle.slash_defs.specs.declared.book.Book.{Book}
use Rattle.record_join.specs.BooksPasts.{BooksStand, with_file}
use Rattle.check_sign.proofs.merging.gain_book.Goals as goal

pub returns-clause-gained : goal.returns-clause-gained
returns-clause-gained g c = λ pasts stand.
    let K : List (PubKey × Book) → Type 0 = λ l. BooksStand c.merge_prepared.new.self (with_file pasts l) in
    subst K c.from_ref-one.ensures.value (c.merge_prepared.ensures.stands c.args.books.now c.in-Ok.fresh pasts c.in-Ok.ensures.prepared stand)
