use Rattle.std.proofs.Common.{◌++◌, ◌∙◌, ap, string_bytes}
use Rattle.interchange_io.proofs.ResultLemmas.{OnOk-map}
use Rattle.interchange_io.proofs.SpellingLemmas.{pieces5, file_pieces}
use Rattle.interchange_io.proofs.writing.push_file.Goals as goal

pub returns-clause-text : goal.returns-clause-text
returns-clause-text c =
    let out = string_bytes c.args.out.now in
    OnOk-map c.push_text-3.result
    (λ last.
    pieces5 out _ _ _ _ _ _ c.in_ok-push_text.ensures c.in_ok-push_books.ensures.text c.in_ok-push_text-2.ensures _ _ _ _ c.in_ok-push_metadata.ensures.text last
    ∙ ap (λ t. out ++ t) (file_pieces (record { genesis = c.args.genesis.now; books = c.args.books.now.entries })))
    c.push_text-3.ensures
