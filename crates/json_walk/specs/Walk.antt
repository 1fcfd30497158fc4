-- Reading a value from the front of a list of tokens, under a reading of its data.
use Rattle.std.specs.Prelude.{◌≡◌, ℕ, ◌<◌, List, ◌∷◌, length, Option, Some, None, Result, Ok, Err, is_some, option_map, if◌then◌else◌}
use Rattle.std.specs.Borrow.{Bor}
use Rattle.json.specs.Token.{Token}
use Rattle.json.specs.Json.{value, items, members}
use Rattle.serde_json.specs.Data.{Data, null, Items, Members, no_members}
use Rattle.serde_json.specs.Read.{of_json, of_items, of_members, converted}
use Rattle.serde_json.specs.Find.{as_null, as_str, as_array, as_object}
use Rattle.json_walk.specs.declared.entering.Entered.{Entered}
use Rattle.json_walk.specs.declared.entering.Entered.TheVariants as entered

-- the data of the value in front, and the tokens behind it
abbrev pub value_at : ℕ → List Token → Option (Data × List Token)
value_at depth ts = converted of_json (value depth ts)

-- the same of the items up to the bracket that closes an array
abbrev pub items_at : ℕ → ℕ → List Token → Option (Items × List Token)
items_at depth n ts = converted of_items (items (value depth) n ts)

-- the same of the members up to the bracket that closes an object, put into those that were found before
abbrev pub members_into : Members → ℕ → ℕ → List Token → Option (Members × List Token)
members_into found depth n ts = converted (λ ms. of_members ms found) (members (value depth) n ts)

abbrev pub members_at : ℕ → List Token → Option (Members × List Token)
members_at depth ts = members_into no_members depth (length ts) ts

-- r is what f gives of what was read, and new is what follows it
abbrev pub ReadsAs : {A R : Type 0} → R → (A → R) → Option (A × List Token) → List Token → Type 0
ReadsAs {A} r f reading new = (a : A) × (reading ≡ Some (a, new)) × (f a ≡ r)

-- an error says that nothing can be read
abbrev pub Reads : {A R E : Type 0} → Result R E → (A → R) → Option (A × List Token) → List Token → Type 0
Reads (Ok r) f reading new = ReadsAs r f reading new
Reads (Err e) f reading new = reading ≡ None

-- nothing of it is kept
abbrev pub nothing_of : {A : Type 0} → A → Unit {0}
nothing_of a = tt

-- None for null, and else the text if it is one
abbrev pub text_or_null : Data → Option (Option (List ℕ))
text_or_null d = if is_some (as_null d) then None else Some (as_str d)

-- an object's brace was taken, or the value is none and was passed
abbrev pub EntersObject : Entered → ℕ → List Token → List Token → Type 0
EntersObject entered.Inside depth old new = (0 < depth) × (old ≡ Token.begin_object ∷ new)
EntersObject entered.Null depth old new = value_at depth old ≡ Some (null, new)
EntersObject entered.Other depth old new = (d : Data) × (value_at depth old ≡ Some (d, new)) × (as_null d ≡ None) × (as_object d ≡ None)

-- the same of an array's bracket
abbrev pub EntersArray : Entered → ℕ → List Token → List Token → Type 0
EntersArray entered.Inside depth old new = (0 < depth) × (old ≡ Token.begin_array ∷ new)
EntersArray entered.Null depth old new = value_at depth old ≡ Some (null, new)
EntersArray entered.Other depth old new = (d : Data) × (value_at depth old ≡ Some (d, new)) × (as_null d ≡ None) × (as_array d ≡ None)

abbrev pub Enters : {E : Type 0} → (Entered → ℕ → List Token → List Token → Type 0) → Result Entered E → ℕ → List Token → List Token → Type 0
Enters how (Ok e) depth old new = how e depth old new
Enters how (Err e) depth old new = value_at depth old ≡ None

-- the next value's text
abbrev pub ReadsText : {E : Type 0} → Result (Option (Option (Bor (List ℕ)))) E → ℕ → List Token → List Token → Type 0
ReadsText (Ok r) depth old new = (d : Data) × (value_at depth old ≡ Some (d, new)) × (text_or_null d ≡ option_map (option_map (λ t. t.now)) r)
ReadsText (Err e) depth old new = value_at depth old ≡ None
