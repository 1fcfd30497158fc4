use Rattle.std.proofs.Common.{◌++◌, ◌∙◌, ap, string_bytes}
use Rattle.interchange_io.proofs.ResultLemmas.{OnOk-map}
use Rattle.interchange_io.proofs.SpellingLemmas.{pieces3, block_text}
use Rattle.interchange_io.proofs.writing.push_block.Goals as goal

pub returns-clause-text : goal.returns-clause-text
returns-clause-text c =
    let out = string_bytes c.args.out.now in
    OnOk-map c.push_text.result
    (λ last. pieces3 out _ _ _ _ _ _ c.in_ok-push_opening.ensures.text c.in_ok-push_number_member.ensures.text last ∙ ap (λ t. out ++ t) (block_text c.args.block.now))
    c.push_text.ensures

pub returns-clause-fits : goal.returns-clause-fits
returns-clause-fits c = OnOk-map c.push_text.result (λ last. (c.in_ok-push_number_member.ensures.fits, c.in_ok-push_opening.ensures.fits)) c.push_text.ensures
