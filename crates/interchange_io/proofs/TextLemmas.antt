-- Whether the bytes are UTF-8.
use Rattle.std.proofs.Common.{◌≡◌, ℕ, List, Bool, true, false, Err, IsUtf8, refl}
use Rattle.std.specs.Str.{is_utf8}
use Rattle.std.proofs.lemmas.Str.{is_utf8-from_IsUtf8, IsUtf8-from_is_utf8}
use Rattle.serde_json.specs.Read.{read}
use Rattle.interchange_io.specs.declared.fault.ReadFault.TheVariants as fault
use Rattle.interchange_io.specs.Reading.{of_data, of_text}

pub of_text-utf8 : (bytes : List ℕ) → IsUtf8 bytes → of_text bytes ≡ of_data (read bytes)
unfolding of_text
of_text-utf8 bytes h = rw (is_utf8-from_IsUtf8 bytes h) refl

is_false : (b : Bool) → (b ≡ true → ⊥) → b ≡ false
is_false true h = absurd (h refl)
is_false false h = refl

pub of_text-other : (bytes : List ℕ) → (IsUtf8 bytes → ⊥) → of_text bytes ≡ Err fault.NotUtf8
unfolding of_text
of_text-other bytes h = rw (is_false (is_utf8 bytes) (λ e. h (IsUtf8-from_is_utf8 bytes e))) refl
