use Rattle.std.proofs.Common.{◌≡◌, None, sym, subst, List, All}
use Rattle.record_join.specs.Keys.{kept_of}
use Rattle.edge_kit.specs.declared.bytes.PubKey.{PubKey}
use Rattle.protect_record.specs.Parts.{Parts}
use Rattle.record_join.specs.Preparing.{AreTaken}
use Rattle.record_join.proofs.BooksLemmas.{all_same_stand}
use Rattle.record_join.proofs.TakeLemmas.{fewer_back, gone_back}
use Rattle.record_join.proofs.books.Books.take_back.Goals as goal

pub returns-clause-stands : goal.returns-clause-stands
returns-clause-stands c = λ before pasts taken stand.
    let P : List (PubKey × Parts) → Type 0 = λ l. AreTaken before c.args.fresh l in
    let Q : List PubKey → Type 0 = λ l. AreTaken before l c.self.inside.kept.entries in
    let is = subst Q (sym c.into_vec.ensures) (subst P (sym c.self.view_is) taken) in
    all_same_stand before _ pasts (c.take_out.ensures.same before is.absent is.same) stand

pub invariant_of-self : goal.invariant_of-self
invariant_of-self c =
    let P : List (PubKey × Parts) → Type 0 = λ l. AreTaken c.requires.0 c.args.fresh l in
    let Q : List PubKey → Type 0 = λ l. AreTaken c.requires.0 l c.self.inside.kept.entries in
    let is = subst Q (sym c.into_vec.ensures) (subst P (sym c.self.view_is) c.requires.1) in
    fewer_back c.requires.0 _ _ _ _ is (c.take_out.ensures.same c.requires.0 is.absent is.same) c.self.invariant

pub returns-clause-gone : goal.returns-clause-gone
returns-clause-gone c =
    let P : List (PubKey × Parts) → Type 0 = λ l. AreTaken c.requires.0 c.args.fresh l in
    let Q : List PubKey → Type 0 = λ l. AreTaken c.requires.0 l c.self.inside.kept.entries in
    let is = subst Q (sym c.into_vec.ensures) (subst P (sym c.self.view_is) c.requires.1) in
    let F : List PubKey → Type 0 = λ l. All (λ key. kept_of c.take_out.new.kept.entries key ≡ None) l in
    subst F c.into_vec.ensures (gone_back c.requires.0 _ _ is.absent (c.take_out.ensures.same c.requires.0 is.absent is.same))
