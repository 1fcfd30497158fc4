-- The value of a shape that JSON writes (Beacon API: numbers as decimal texts, bytes as `0x` hex, lists as arrays).
use Rattle.std.specs.Prelude.{ℕ, zero, suc, ◌+◌, ◌/◌, ◌%◌, ◌==◌, List, [], ◌∷◌, length, drop, Bool, true, false, if◌then◌else◌, nat_le, nat_lt, nat_eq, codes, Option, Some, None, option_and_then, is_some, ok_or, Result, Ok, Err}
use Rattle.std.specs.List.{starts_with, flat_map}
use Rattle.std.specs.Result.{result_ok}
use Rattle.edge_kit.specs.Texts.{quoted_number, hex_bytes}
use Rattle.hex.specs.Hex.{decode_of}
use Rattle.serde_json.specs.Data.{Data, Items, no_items, item}
use Rattle.serde_json.specs.Find.{get, as_str, as_array, as_object}
use Rattle.phase0_types.specs.Shapes.{Shape, byte_vector, uint64, bit_list, uint64_list, list, vector, container, Fields, no_fields, field}
use Rattle.phase0_types.specs.Values.{ValueOf, FieldsOf}
use Rattle.phase0_types.specs.Members.{member_name}
use Rattle.phase0_types.specs.Faults.{◌>>=◌, fault_at}
use Rattle.phase0_types.specs.declared.member.Member.{Member}
use Rattle.phase0_types.specs.declared.fault.ReadFault.{ReadFault}
use Rattle.phase0_types.specs.declared.fault.ReadFault.TheVariants as fault

-- a text
abbrev pub text_at : Option Member → Data → Result (List ℕ) ReadFault
text_at place d = ok_or (as_str d) (fault_at fault.Missing place)

-- the number of a decimal text
abbrev pub number_at : Option Member → Data → Result ℕ ReadFault
number_at place d = do
  text ← text_at place d
  ok_or (quoted_number text) (fault_at fault.BadNumber place)

-- the n bytes of a hex text
abbrev pub bytes_at : ℕ → Option Member → Data → Result (List ℕ) ReadFault
bytes_at n place d = do
  text ← text_at place d
  ok_or (hex_bytes n text) (fault_at fault.BadHex place)

-- the elements of an array
abbrev pub items_at : Option Member → Data → Result Items ReadFault
items_at place d = ok_or (as_array d) (fault_at fault.Missing place)

abbrev pub item_count : Items → ℕ
item_count no_items = 0
item_count (item d ds) = item_count ds + 1

-- each element, by the same reading; the first fault stands
abbrev pub each_item : {A : Type 0} → (Data → Result A ReadFault) → Items → Result (List A) ReadFault
each_item reading no_items = Ok []
each_item reading (item d ds) = reading d >>= (λ x. each_item reading ds >>= (λ xs. Ok (x ∷ xs)))

-- what a member's value is read as; a member that is absent is missing
abbrev pub member_at : {A : Type 0} → (Option Member → Data → Result A ReadFault) → Member → Data → Result A ReadFault
member_at reading member d = ok_or (get (member_name member) d) (fault.Missing member) >>= reading (Some member)

-- so many bits of a number, the lowest first
abbrev pub bits_of : ℕ → ℕ → List Bool
bits_of zero n = []
bits_of (suc count) n = (n % 2 == 1) ∷ bits_of count (n / 2)

-- the bits before the last that is set, which is the delimiter (SimpleSerialize, "Serialization", `Bitlist[N]`)
abbrev pub with_first : Bool → Option (List Bool) → Option (List Bool)
with_first bit (Some before) = Some (bit ∷ before)
with_first true None = Some []
with_first false None = None

abbrev pub before_last_set : List Bool → Option (List Bool)
before_last_set [] = None
before_last_set (bit ∷ bits) = with_first bit (before_last_set bits)

-- the last byte holds the delimiter, so it is not 0
abbrev pub ends_in_a_bit : List ℕ → Bool
ends_in_a_bit [] = false
ends_in_a_bit (byte ∷ []) = nat_lt 0 byte
ends_in_a_bit (byte ∷ next ∷ bytes) = ends_in_a_bit (next ∷ bytes)

abbrev pub bits_of_bytes : List ℕ → Option (List Bool)
bits_of_bytes bytes = if ends_in_a_bit bytes then before_last_set (flat_map (bits_of 8) bytes) else None

-- the bits of a hex text with its delimiter
unfoldable pub bits_of_text : List ℕ → Option (List Bool)
bits_of_text text = if starts_with nat_eq text (codes "0x") then option_and_then bits_of_bytes (result_ok (decode_of (drop 2 text))) else None

unfoldable mutual
  -- the value of a shape, or the first fault in the order of its fields
  pub read_at : (shape : Shape) → Option Member → Data → Result (ValueOf shape) ReadFault
  read_at (byte_vector n) place d = bytes_at n place d
  read_at uint64 place d = number_at place d
  read_at (bit_list limit) place d = text_at place d >>= (λ text. ok_or (bits_of_text text) (fault_at fault.BadHex place) >>= (λ bits. if nat_le (length bits) limit then Ok bits else Err (fault_at fault.TooLong place)))
  read_at (uint64_list limit) place d = items_at place d >>= (λ items. if nat_le (item_count items) limit then each_item (number_at place) items else Err (fault_at fault.TooLong place))
  read_at (list shape limit) place d = items_at place d >>= (λ items. if nat_le (item_count items) limit then each_item (read_at shape place) items else Err (fault_at fault.TooLong place))
  read_at (vector shape n) place d = items_at place d >>= (λ items. if nat_eq (item_count items) n then each_item (read_at shape place) items else Err (fault_at fault.TooLong place))
  read_at (container fields) place d = if is_some (as_object d) then read_fields fields d else Err (fault_at fault.Missing place)

  pub read_fields : (fields : Fields) → Data → Result (FieldsOf fields) ReadFault
  read_fields no_fields d = Ok tt
  read_fields (field member shape fields) d = member_at (read_at shape) member d >>= (λ value. read_fields fields d >>= (λ values. Ok (value, values)))
