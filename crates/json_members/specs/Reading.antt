-- The members of JSON objects, read as what they should be (RFC 8259; Beacon API: numbers as decimal texts, bytes as
-- `0x` hex).
use Rattle.std.specs.Prelude.{ℕ, List, Bool, Option, None, option_and_then, if◌then◌else◌}
use Rattle.std.specs.Str.{is_utf8}
use Rattle.edge_kit.specs.Texts.{quoted_number, hex_bytes}
use Rattle.serde_json.specs.Data.{Data, Items}
use Rattle.serde_json.specs.Find.{get, as_str, as_bool, as_array}
use Rattle.serde_json.specs.Read.{read}

-- the JSON that bytes are
unfoldable pub json_of : List ℕ → Option Data
json_of bytes = if is_utf8 bytes then read bytes else None

-- the text of a member
abbrev pub text_in : List ℕ → Data → Option (List ℕ)
text_in name d = option_and_then as_str (get name d)

-- its number, as a decimal text
abbrev pub number_in : List ℕ → Data → Option ℕ
number_in name d = option_and_then quoted_number (text_in name d)

-- its n bytes, as `0x` hex
abbrev pub bytes_in : ℕ → List ℕ → Data → Option (List ℕ)
bytes_in n name d = option_and_then (hex_bytes n) (text_in name d)

-- its truth value
abbrev pub flag_in : List ℕ → Data → Option Bool
flag_in name d = option_and_then as_bool (get name d)

-- the elements of its array
abbrev pub items_in : List ℕ → Data → Option Items
items_in name d = option_and_then as_array (get name d)
