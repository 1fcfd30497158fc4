-- The JSON that writes a value of a shape (Beacon API).
use Rattle.std.specs.Prelude.{ℕ, List, [], ◌∷◌, ◌++◌, map, true, codes, decimal}
use Rattle.edge_kit.specs.Texts.{hex_text}
use Rattle.serde_json.specs.Data.{Data, string, array, object, Members, no_members, put}
use Rattle.serde_json.specs.View.{items_of}
use Rattle.ssz_roots.specs.Packing.{bit_bytes}
use Rattle.phase0_types.specs.Shapes.{Shape, byte_vector, uint64, bit_list, uint64_list, list, vector, container, Fields, no_fields, field}
use Rattle.phase0_types.specs.Values.{ValueOf, FieldsOf}
use Rattle.phase0_types.specs.Members.{member_name}

unfoldable mutual
  pub write : (shape : Shape) → ValueOf shape → Data
  write (byte_vector n) value = string (hex_text value)
  write uint64 value = string (decimal value)
  write (bit_list limit) value = string (hex_text (bit_bytes (value ++ true ∷ [])))
  write (uint64_list limit) value = array (items_of (map (λ n. string (decimal n)) value))
  write (list shape limit) value = array (items_of (map (write shape) value))
  write (vector shape n) value = array (items_of (map (write shape) value))
  write (container fields) value = object (write_fields fields value)

  pub write_fields : (fields : Fields) → FieldsOf fields → Members
  write_fields no_fields values = no_members
  write_fields (field member shape fields) values = put (member_name member) (write shape values.0) (write_fields fields values.1)
