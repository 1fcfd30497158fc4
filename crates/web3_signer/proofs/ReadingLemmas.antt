-- What serde_json says of a body, as what the body means.
use Rattle.std.proofs.Common.{◌≡◌, ℕ, Bool, true, false, List, [], ◌∷◌, length, Option, Some, None, refl, cond}
use Rattle.std.specs.Str.{IsUtf8, is_utf8}
use Rattle.std.proofs.lemmas.Str.{IsUtf8-from_is_utf8, is_utf8-from_IsUtf8}
use Rattle.serde_json.specs.Data.{Data}
use Rattle.serde_json.specs.Read.{read}
use Rattle.serde_json.specs.View.{items_view}
use Rattle.serde_json.specs.declared.value.Value.{Value}
use Rattle.web3_signer.specs.Readings.{data_of, only_item}

pub data_of-read : (body : List ℕ) (d : Data) → IsUtf8 body → read body ≡ Some d → data_of body ≡ Some d
unfolding data_of
data_of-read body d utf8 e = rw (is_utf8-from_IsUtf8 body utf8) e

none_if : (b : Bool) (x : Option Data) → (b ≡ true → x ≡ None) → cond b x None ≡ None
none_if true x h = h refl
none_if false x h = refl

pub data_of-unread : (body : List ℕ) → (IsUtf8 body → read body ≡ None) → data_of body ≡ None
unfolding data_of
data_of-unread body h = none_if (is_utf8 body) (read body) (λ e. h (IsUtf8-from_is_utf8 body e))

pub only_item-other : (values : List Value) → (length values ≡ 1 → ⊥) → only_item (items_view values) ≡ None
only_item-other [] h = refl
only_item-other (x ∷ []) h = absurd (h refl)
only_item-other (x ∷ y ∷ values) h = refl
