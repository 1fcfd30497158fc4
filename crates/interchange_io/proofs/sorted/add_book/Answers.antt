use Rattle.std.proofs.Common.{◌∙◌, sym}
use Rattle.interchange_io.proofs.ResultLemmas.{OnOk-map}
use Rattle.interchange_io.proofs.BookLemmas.{merged_there}
use Rattle.interchange_io.proofs.sorted.add_book.Goals as goal

pub returns-in-Some : goal.returns-in-Some
returns-in-Some c =
    let written = c.get_mut.follows.holds c.add.new.self in
    OnOk-map c.add.result (λ is. written.0 ∙ merged_there c.args.sorted.now.entries c.args.key c.in-Some.kept.now c.add.new.self c.args.book.now c.get_mut.ensures.ordered (sym c.in-Some.ensures.value) is) c.add.ensures
