use Rattle.std.proofs.Common.{List, sym, subst}
use Rattle.edge_kit.specs.declared.bytes.PubKey.{PubKey}
use Rattle.protect_record.specs.Parts.{Parts}
use Rattle.record_join.specs.BooksPasts.{BooksStand}
use Rattle.record_join.proofs.BooksLemmas.{all_same_stand}
use Rattle.record_join.proofs.FileLemmas.{within_same}
use Rattle.record_join.proofs.books.Books.judge_all.Goals as goal

pub invariant_of-self : goal.invariant_of-self
invariant_of-self c = within_same _ _ _ c.judge_all.ensures.same c.self.invariant

pub returns-clause-stands : goal.returns-clause-stands
returns-clause-stands c = λ pasts stand.
    let P : List (PubKey × Parts) → Type 0 = λ l. BooksStand l pasts in
    all_same_stand _ _ pasts c.judge_all.ensures.same (subst P (sym c.self.view_is) stand)
