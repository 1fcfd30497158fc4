-- The characters of a text that are shown, one after another.
use Rattle.std.proofs.Common.{◌≡◌, ℕ, zero, suc, ◌+◌, ◌<◌, List, [], ◌∷◌, ◌++◌, length, take, refl, sym, ap, ◌∙◌, append_assoc, append-nil, add-one, arith}
use Rattle.std.specs.Char.{encode_utf8}
use Rattle.std.specs.Str.{chars, encode_utf8_all, IsUtf8}
use Rattle.std.proofs.lemmas.Str.{chars-nil, chars_past_char}
use Rattle.custody_format.specs.Messages.{first_characters}

-- the first one, and those after it
first_more : (n m : ℕ) (text rest : List ℕ) (c : ℕ) → IsUtf8 text → text ≡ encode_utf8 c ++ rest → m + 1 ≡ n
    → first_characters n text ≡ encode_utf8 c ++ first_characters m rest
first_more n m text rest c utf8 is more =
    ap (λ cs. encode_utf8_all (take n cs)) (chars_past_char text rest c utf8 is)
    ∙ ap (λ k. encode_utf8_all (take k (c ∷ chars rest))) (sym more ∙ add-one m)

-- one more is shown
pub shown_more : (all shown more text rest : List ℕ) (n m c : ℕ) → IsUtf8 text → all ≡ shown ++ first_characters n text
    → text ≡ encode_utf8 c ++ rest → m + 1 ≡ n → more ≡ shown ++ encode_utf8 c → all ≡ more ++ first_characters m rest
shown_more all shown more text rest n m c utf8 so_far is left pushed =
    so_far ∙ ap (λ after. shown ++ after) (first_more n m text rest c utf8 is left)
    ∙ sym (append_assoc shown (encode_utf8 c) (first_characters m rest)) ∙ ap (λ front. front ++ first_characters m rest) (sym pushed)

none_left : (n : ℕ) (rest : List ℕ) → (0 < n → length rest ≡ 0) → first_characters n rest ≡ []
none_left zero rest h = refl
none_left (suc n) [] h = ap (λ cs. encode_utf8_all (take (suc n) cs)) chars-nil
none_left (suc n) (b ∷ bs) h = absurd (omega (arith, h (omega arith)))

-- nothing more is shown
pub shown_all : (all shown rest : List ℕ) (n : ℕ) → all ≡ shown ++ first_characters n rest → (0 < n → length rest ≡ 0) → shown ≡ all
shown_all all shown rest n so_far none = sym (so_far ∙ ap (λ more. shown ++ more) (none_left n rest none) ∙ append-nil shown)
