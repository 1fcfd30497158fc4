-- Pieces that are added one after another.
use Rattle.std.proofs.Common.{◌≡◌, ℕ, List, [], ◌++◌, sym, ap, ◌∙◌, append_assoc}

pub three_pieces : (old a b c x y z : List ℕ) → x ≡ old ++ a → y ≡ x ++ b → z ≡ y ++ c → z ≡ old ++ (a ++ b ++ c)
three_pieces old a b c x y z p q r =
    r ∙ ap (λ u. u ++ c) (q ∙ ap (λ u. u ++ b) p ∙ append_assoc old a b) ∙ append_assoc old (a ++ b) c

pub four_pieces : (e a b c d w x y z : List ℕ) → e ≡ [] → w ≡ e ++ a → x ≡ w ++ b → y ≡ x ++ c → z ≡ y ++ d → z ≡ a ++ b ++ c ++ d
four_pieces e a b c d w x y z n p q r s =
    let first : w ≡ a = p ∙ ap (λ u. u ++ a) n in
    s ∙ ap (λ u. u ++ d) (r ∙ ap (λ u. u ++ c) (q ∙ ap (λ u. u ++ b) first))

-- three pieces after others, one after another
pub behind : (x a b c : List ℕ) → x ++ (a ++ b ++ c) ≡ x ++ a ++ b ++ c
behind x a b c = sym (ap (λ u. u ++ c) (append_assoc x a b) ∙ append_assoc x (a ++ b) c)
