-- Lengths: what is no text is no number.
use Rattle.std.proofs.Common.{◌≡◌, ℕ, zero, suc, ◌<◌, ◌^◌, Bool, true, false, ◌&&◌, cond, List, [], ◌∷◌, length, get_or, Some, None, IsUtf8, refl, arith, nat_lt, nat_le}
use Rattle.std.proofs.lemmas.Bool.{and_parts}
use Rattle.std.specs.Char.{is_ascii_digit}
use Rattle.std.specs.List.{list_all}
use Rattle.std.specs.Str.Parse.{digits_value}
use Rattle.std.proofs.lemmas.Bool.Decides.{nat_tests}
use Rattle.std.proofs.lemmas.Str.{IsUtf8-from_ascii}
use Rattle.edge_kit.specs.Texts.{is_quoted, quoted_number}

and_false : (x y : Bool) → y ≡ false → x && y ≡ false
and_false true y e = e
and_false false y e = refl

false_and : (x y : Bool) → x ≡ false → x && y ≡ false
false_and true y e = absurd (let k : true ≡ false = e in cc)
false_and false y e = refl

no_number : (b : Bool) (n : ℕ) → b ≡ false → None ≡ cond b (Some n) None
no_number true n e = absurd (let k : true ≡ false = e in cc)
no_number false n e = refl

digit_ascii : (b : ℕ) → is_ascii_digit b ≡ true → b < 128
digit_ascii b h = grind (arith, nat_tests)

digits_ascii : (bs : List ℕ) → list_all is_ascii_digit bs ≡ true → (i : ℕ) → get_or bs i 0 < 128
digits_ascii [] h i = omega arith
digits_ascii (b ∷ bs) h zero = digit_ascii b (and_parts (is_ascii_digit b) (list_all is_ascii_digit bs) h).0
digits_ascii (b ∷ bs) h (suc i) = digits_ascii bs (and_parts (is_ascii_digit b) (list_all is_ascii_digit bs) h).1 i

by_test : (bs : List ℕ) (b : Bool) → list_all is_ascii_digit bs ≡ b → (IsUtf8 bs → ⊥) → None ≡ quoted_number bs
by_test bs true e isnt = absurd (isnt (IsUtf8-from_ascii bs (digits_ascii bs e)))
by_test bs false e isnt =
    no_number (is_quoted bs) (digits_value 10 bs)
    (false_and _ (nat_lt (digits_value 10 bs) (2 ^ 64)) (and_false (nat_lt 0 (length bs) && nat_le (length bs) 20) (list_all is_ascii_digit bs) e))

-- bytes that are no text are no number in digits
pub not_quoted : (bs : List ℕ) → (IsUtf8 bs → ⊥) → None ≡ quoted_number bs
not_quoted bs isnt = by_test bs (list_all is_ascii_digit bs) refl isnt
