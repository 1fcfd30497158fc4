-- Pieces that are written one after another.
use Rattle.std.proofs.Common.{◌≡◌, ℕ, List, ◌++◌, Result, Ok, Err, OnOk, ap, ◌∙◌, append_assoc}

-- a fact of an `Ok` follows from another
pub OnOk-map : {T E P Q : Type 0} (r : Result T E) → (P → Q) → OnOk r P → OnOk r Q
OnOk-map (Ok x) f p = f p
OnOk-map (Err e) f p = tt

module _ (o x1 x2 x3 a b c : List ℕ) (first : x1 ≡ o ++ a) (second : x2 ≡ x1 ++ b) (third : x3 ≡ x2 ++ c) where
  joined3 : x3 ≡ ((o ++ a) ++ b) ++ c
  joined3 = third ∙ ap (λ t. t ++ c) (second ∙ ap (λ t. t ++ b) first)

  pub pieces3 : x3 ≡ o ++ (a ++ (b ++ c))
  pieces3 = joined3 ∙ simp append_assoc

  pub pieces6 : (x4 x5 x6 d e f : List ℕ) → x4 ≡ x3 ++ d → x5 ≡ x4 ++ e → x6 ≡ x5 ++ f → x6 ≡ o ++ (a ++ (b ++ (c ++ (d ++ (e ++ f)))))
  pieces6 x4 x5 x6 d e f fourth fifth sixth =
      sixth ∙ ap (λ t. t ++ f) (fifth ∙ ap (λ t. t ++ e) (fourth ∙ ap (λ t. t ++ d) joined3)) ∙ simp append_assoc
