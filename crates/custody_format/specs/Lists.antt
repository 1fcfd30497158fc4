-- Lists of texts and of keys in JSON (Keymanager API: `keystores`, `passwords`, `pubkeys`).
use Rattle.std.specs.Prelude.{ℕ, List, [], ◌∷◌, Option, Some, option_map, option_and_then}
use Rattle.edge_kit.specs.Texts.{hex_bytes}
use Rattle.edge_kit.specs.declared.bytes.PubKey.{PubKey}
use Rattle.serde_json.specs.Data.{Data, Items, no_items, item}
use Rattle.serde_json.specs.Find.{as_str, as_array}
use Rattle.json_members.specs.Reading.{items_in}

-- what each element is, where each is something
abbrev pub each : {A : Type 0} → (Data → Option A) → Items → Option (List A)
each f no_items = Some []
each f (item d ds) = option_and_then (λ x. option_map (λ xs. x ∷ xs) (each f ds)) (f d)

-- the texts of a list
abbrev pub texts_in : List ℕ → Data → Option (List (List ℕ))
texts_in name d = option_and_then (each as_str) (items_in name d)

-- the key of 48 bytes that a text of `0x` hex is
abbrev pub key_of : Data → Option PubKey
key_of d = option_map (λ bytes. record { 0 = bytes }) (option_and_then (hex_bytes 48) (as_str d))

-- the keys of a list
abbrev pub keys_of : Data → Option (List PubKey)
keys_of d = option_and_then (each key_of) (as_array d)
