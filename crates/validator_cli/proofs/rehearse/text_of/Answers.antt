use Rattle.std.proofs.Common.{ℕ, ◌≡◌, ◌∙◌, ◌++◌, List, [], ap}
use Rattle.validator_cli.proofs.rehearse.text_of.Goals as goal

-- one more is added
add_on : (new old text line : List ℕ) → new ≡ old ++ line → old ≡ text → new ≡ text ++ line
add_on new old text line is before = is ∙ ap (λ (t : List ℕ). t ++ line) before

pub returns : goal.returns
returns c =
    add_on _ _ _ _ c.in_ok-push_count-6.ensures
    (add_on _ _ _ _ c.in_ok-push_count-5.ensures
    (add_on _ _ _ _ c.in_ok-push_count-4.ensures
    (add_on _ _ _ _ c.in_ok-push_count-3.ensures
    (add_on _ _ _ _ c.in_ok-push_count-2.ensures
    (add_on _ _ [] _ c.in_ok-push_count.ensures c.new-text.ensures.bytes)))))
