-- The hash tree root of a value of a shape (consensus-specs, "SimpleSerialize", "Merkleization").
use Rattle.std.specs.Prelude.{ℕ, List, [], ◌∷◌, ◌++◌, length, map}
use Rattle.std.specs.Int.{div_ceil}
use Rattle.sha2.specs.Sha256.{sha256}
use Rattle.ssz_roots.specs.Trees.{merkle_root}
use Rattle.ssz_roots.specs.Packing.{packed, bit_bytes, number_bytes, number_chunk}
use Rattle.phase0_types.specs.Shapes.{Shape, byte_vector, uint64, bit_list, uint64_list, list, vector, container, Fields, no_fields, field, field_count}
use Rattle.phase0_types.specs.Values.{ValueOf, FieldsOf}

unfoldable mutual
  -- bytes and numbers are packed; the fields of a container are its chunks; a list's root has its length mixed in
  pub root_of : (shape : Shape) → ValueOf shape → List ℕ
  root_of (byte_vector n) value = merkle_root (div_ceil n 32) (packed value)
  root_of uint64 value = number_chunk value
  root_of (bit_list limit) value = sha256 (merkle_root (div_ceil limit 256) (packed (bit_bytes value)) ++ number_chunk (length value))
  root_of (uint64_list limit) value = sha256 (merkle_root (div_ceil limit 4) (packed (number_bytes value)) ++ number_chunk (length value))
  root_of (list shape limit) value = sha256 (merkle_root limit (map (root_of shape) value) ++ number_chunk (length value))
  root_of (vector shape n) value = merkle_root n (map (root_of shape) value)
  root_of (container fields) value = merkle_root (field_count fields) (field_roots fields value)

  pub field_roots : (fields : Fields) → FieldsOf fields → List (List ℕ)
  field_roots no_fields values = []
  field_roots (field member shape fields) values = root_of shape values.0 ∷ field_roots fields values.1
