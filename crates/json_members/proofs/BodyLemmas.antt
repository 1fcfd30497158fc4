-- What serde_json says of bytes, as the JSON that they are.
use Rattle.std.proofs.Common.{◌≡◌, ℕ, Bool, true, false, List, Option, Some, None, refl, cond}
use Rattle.std.specs.Str.{IsUtf8, is_utf8}
use Rattle.std.proofs.lemmas.Str.{IsUtf8-from_is_utf8, is_utf8-from_IsUtf8}
use Rattle.serde_json.specs.Data.{Data}
use Rattle.serde_json.specs.Read.{read}
use Rattle.json_members.specs.Reading.{json_of}

pub json_of-read : (bytes : List ℕ) (d : Data) → IsUtf8 bytes → read bytes ≡ Some d → json_of bytes ≡ Some d
unfolding json_of
json_of-read bytes d utf8 e = rw (is_utf8-from_IsUtf8 bytes utf8) e

none_if : (b : Bool) (x : Option Data) → (b ≡ true → x ≡ None) → cond b x None ≡ None
none_if true x h = h refl
none_if false x h = refl

pub json_of-unread : (bytes : List ℕ) → (IsUtf8 bytes → read bytes ≡ None) → json_of bytes ≡ None
unfolding json_of
json_of-unread bytes h = none_if (is_utf8 bytes) (read bytes) (λ e. h (IsUtf8-from_is_utf8 bytes e))
