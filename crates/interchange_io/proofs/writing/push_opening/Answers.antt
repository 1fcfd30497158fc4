use Rattle.std.proofs.Common.{◌++◌, ◌∙◌, sym, ap, string_bytes}
use Rattle.interchange_io.specs.Writing.{opening_text}
use Rattle.interchange_io.proofs.ResultLemmas.{OnOk-map}
use Rattle.interchange_io.proofs.SpellingLemmas.{pieces2}
use Rattle.interchange_io.proofs.writing.push_opening.Goals as goal

pub returns-clause-text : goal.returns-clause-text
returns-clause-text c =
    let out = string_bytes c.args.out.now in
    OnOk-map c.push_text-2.result (λ last. pieces2 out _ _ _ _ c.in_ok-push_hex_member.ensures.text last ∙ ap (λ root. out ++ opening_text root) (sym c.in-Some.is)) c.push_text-2.ensures
