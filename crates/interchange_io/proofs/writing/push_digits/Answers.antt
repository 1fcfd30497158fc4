use Rattle.std.proofs.Common.{[], ◌∷◌, ◌++◌, ◌∙◌, sym, ap, arith, string_bytes}
use Rattle.json.specs.Print.{escape_byte}
use Rattle.interchange_io.proofs.ResultLemmas.{OnOk-map}
use Rattle.interchange_io.proofs.SpellingLemmas.{pieces3}
use Rattle.interchange_io.proofs.PlainLemmas.{escape-encode_lower}
use Rattle.interchange_io.proofs.writing.push_digits.Goals as goal

pub returns-clause-text : goal.returns-clause-text
unfolding escape_byte
returns-clause-text c =
    let out = string_bytes c.args.out.now in
    let digits = c.as_str.ensures.value ∙ c.in_ok-digits.ensures in
    OnOk-map c.push_text-3.result
    (λ last.
    pieces3 out _ _ _ _ _ _ c.in_ok-push_text.ensures (c.in_ok-push_text-2.ensures ∙ ap (λ t. string_bytes c.push_text.new.out ++ t) digits) last
    ∙ ap (λ s. out ++ 34 ∷ 48 ∷ 120 ∷ (s ++ 34 ∷ [])) (sym (escape-encode_lower c.args.bytes.now (λ i. omega (arith, c.type_inv.bytes i)))))
    c.push_text-3.ensures
