use Rattle.std.proofs.Common.{Result, sym, ap, ◌∙◌, subst}
use Rattle.slash_defs.specs.declared.book.File.{File}
use Rattle.interchange_io.specs.declared.fault.ReadFault.{ReadFault}
use Rattle.serde_json.specs.Read.{read}
use Rattle.interchange_io.specs.Steps.{Gives}
use Rattle.interchange_io.specs.Reading.{of_data}
use Rattle.interchange_io.proofs.TextLemmas.{of_text-utf8, of_text-other}
use Rattle.interchange_io.proofs.reading.read_text.Goals as goal

pub returns-in_default : goal.returns-in_default
returns-in_default c = of_text-other c.args.bytes.now c.in_default.ensures

pub returns : goal.returns
returns c =
    let whole = of_text-utf8 c.args.bytes.now c.in-Ok.ensures.1 ∙ ap (λ text. of_data (read text)) (sym c.in-Ok.ensures.0) in
    subst (λ (r : Result File ReadFault). Gives c.file_of_text.result r) (sym whole) c.file_of_text.ensures
