use Rattle.std.proofs.Common.{[], ◌∷◌, ◌++◌, ◌∙◌, sym, ap, string_bytes}
use Rattle.interchange_io.proofs.ResultLemmas.{OnOk-map}
use Rattle.interchange_io.proofs.SpellingLemmas.{pieces3}
use Rattle.interchange_io.proofs.PlainLemmas.{escape-decimal}
use Rattle.interchange_io.proofs.writing.push_number.Goals as goal

pub returns : goal.returns
returns c =
    let out = string_bytes c.args.out.now in
    let digits = c.as_str.ensures.value ∙ c.in_ok-digits.ensures.ok in
    OnOk-map c.push_text-3.result
    (λ last.
    pieces3 out _ _ _ _ _ _ c.in_ok-push_text.ensures (c.in_ok-push_text-2.ensures ∙ ap (λ t. string_bytes c.push_text.new.out ++ t) digits) last
    ∙ ap (λ s. out ++ 34 ∷ (s ++ 34 ∷ [])) (sym (escape-decimal c.args.number c.ranges.number.fits)))
    c.push_text-3.ensures
