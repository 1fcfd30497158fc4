-- Hex digits and decimal digits stand in a JSON string as they are.
use Rattle.std.proofs.Common.{◌≡◌, ℕ, zero, suc, ◌/◌, ◌%◌, ◌^◌, ◌<◌, ◌≤◌, Bool, true, List, [], ◌∷◌, length, get_or, slice_index, decimal, bytes_eq, refl, arith}
use Rattle.std.specs.List.{list_all}
use Rattle.std.proofs.lemmas.Bool.{and_parts}
use Rattle.std.proofs.lemmas.Fmt.{decimal_is_IsNumeral}
use Rattle.std.proofs.lemmas.Slice.Eq.{bytes_eq-Decides}
use Rattle.std.proofs.lemmas.Str.Parse.{digit_at}
use Rattle.hex.specs.Hex.{IsBytes, lower_digits, encode_with, encode_lower}
use Rattle.json.specs.Print.{escape_byte, escape}
use Rattle.json.proofs.Printed.Strings.{escape_byte_plain}

-- no escape stands for the byte
abbrev is_kept : ℕ → Bool
is_kept c = bytes_eq (escape_byte c) (c ∷ [])

kept_at : (xs : List ℕ) (k : ℕ) → list_all is_kept xs ≡ true → k < length xs → escape_byte (slice_index xs k) ≡ slice_index xs k ∷ []
kept_at [] k all below = absurd (omega arith)
kept_at (x ∷ xs) zero all below = (bytes_eq-Decides (escape_byte x) (x ∷ [])).0 (and_parts (is_kept x) (list_all is_kept xs) all).0
kept_at (x ∷ xs) (suc k) all below = kept_at xs k (and_parts (is_kept x) (list_all is_kept xs) all).1 (omega arith)

digits_kept : list_all is_kept lower_digits ≡ true
unfolding escape_byte
digits_kept = refl

kept : (k : ℕ) → k < 16 → escape_byte (slice_index lower_digits k) ≡ slice_index lower_digits k ∷ []
kept k below = kept_at lower_digits k digits_kept below

pub escape-encode_lower : (bytes : List ℕ) → IsBytes bytes → escape (encode_lower bytes) ≡ encode_lower bytes
unfolding encode_with
escape-encode_lower [] fits = refl
escape-encode_lower (b ∷ bytes) fits =
    let byte : b < 256 = fits 0 in
    rw (kept (b / 16) (omega arith), kept (b % 16) (omega arith), escape-encode_lower bytes (λ i. fits (suc i))) refl

escape-digits : (ds : List ℕ) → ((i : ℕ) → i < length ds → (48 ≤ get_or ds i 0) × (get_or ds i 0 ≤ 57)) → escape ds ≡ ds
escape-digits [] each = refl
escape-digits (d ∷ ds) each =
    let digit = each 0 (omega arith) in
    rw (escape_byte_plain d (λ e. omega arith) (λ e. omega arith) (omega arith), escape-digits ds (λ i below. each (suc i) (omega arith))) refl

pub escape-decimal : (n : ℕ) → n < 2 ^ 64 → escape (decimal n) ≡ decimal n
escape-decimal n fits = escape-digits (decimal n) (λ i below. digit_at (decimal n) i (decimal_is_IsNumeral n fits).0.1 below)
