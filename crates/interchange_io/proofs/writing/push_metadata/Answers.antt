use Rattle.std.proofs.Common.{◌++◌, ◌∙◌, ap, string_bytes}
use Rattle.interchange_io.proofs.ResultLemmas.{OnOk-map}
use Rattle.interchange_io.proofs.SpellingLemmas.{pieces2, metadata_text}
use Rattle.interchange_io.proofs.writing.push_metadata.Goals as goal

pub returns-clause-text : goal.returns-clause-text
returns-clause-text c =
    let out = string_bytes c.args.out.now in
    OnOk-map c.push_text.result (λ last. pieces2 out _ _ _ _ c.in_ok-push_hex_member.ensures.text last ∙ ap (λ t. out ++ t) (metadata_text c.args.genesis.now)) c.push_text.ensures
