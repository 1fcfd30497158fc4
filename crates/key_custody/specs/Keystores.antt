-- The public key of a keystore (EIP-2335, `pubkey`).
use Rattle.std.specs.Prelude.{ℕ, List, drop, Option, option_map, option_and_then, if◌then◌else◌, codes, nat_eq}
use Rattle.std.specs.List.{starts_with}
use Rattle.std.specs.Result.{result_ok}
use Rattle.serde_json.specs.Data.{Data}
use Rattle.hex.specs.Hex.{decode_sized}
use Rattle.json_members.specs.Reading.{json_of, text_in}
use Rattle.edge_kit.specs.declared.bytes.PubKey.{PubKey}

-- the text without `0x` at its front, where that stands there
abbrev pub digits_of : List ℕ → List ℕ
digits_of text = if starts_with nat_eq text (codes "0x") then drop 2 text else text

-- the key that 96 hex digits write
abbrev pub key_in_text : List ℕ → Option PubKey
key_in_text text = option_map (λ bytes. record { 0 = bytes }) (result_ok (decode_sized (digits_of text) 48))

abbrev pub key_in : Data → Option PubKey
key_in value = option_and_then key_in_text (text_in (codes "pubkey") value)

abbrev pub key_of_keystore : List ℕ → Option PubKey
key_of_keystore text = option_and_then key_in (json_of text)
