use Rattle.std.proofs.Common.{◌≡◌, rules, sym, List, subst, take}
use Rattle.std.proofs.lemmas.List.{take_more, take_all}
use Rattle.edge_kit.specs.declared.bytes.PubKey.{PubKey}
use Rattle.slash_defs.specs.declared.book.Book.{Book}
use Rattle.check_sign.specs.Exporting.{AreExports}
use Rattle.desk_machine.specs.Handing.{Exports}
use Rattle.check_sign.proofs.ExportLemmas.{at_pasts, once}
use Rattle.check_sign.proofs.exporting.exports_of.Goals as goal

pub keys-preserved : goal.keys-preserved
keys-preserved c =
    let P : List PubKey → Type 0 = λ l. AreExports c.args.books.now l c.export_one.new.found.entries in (
      subst P (sym (take_more c.args.keys.now c.keys.key-index _ c.keys-test.true)) (c.in_ok-export_one.ensures.found (take c.keys.key-index c.args.keys.now) c.keys.invariant.0),
      c.in_ok-export_one.ensures.ordered c.keys.invariant.1,
    )

pub returns : goal.returns
returns c = λ pasts stand.
    let list : c.from_vec.result ≡ c.keys.found.entries = search rules in
    let P : List (PubKey × Book) → Type 0 = λ l. Exports pasts c.args.keys.now l in
    let K : List PubKey → Type 0 = λ l. AreExports c.args.books.now l c.keys.found.entries in
    let all = subst K (take_all c.keys.key-index c.args.keys.now c.keys-test.false) c.keys.invariant.0 in
    subst P (sym list) (record { each = at_pasts c.args.books.now pasts c.args.keys.now c.keys.found.entries stand all; once = once c.keys.found.entries c.keys.invariant.1; ordered = c.keys.invariant.1 })
