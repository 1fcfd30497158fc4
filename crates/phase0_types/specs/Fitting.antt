-- What a value of a shape keeps to (consensus-specs, "SimpleSerialize", "Typing").
use Rattle.std.specs.Prelude.{◌≡◌, ◌^◌, ◌<◌, ◌≤◌, length, All}
use Rattle.hex.specs.Hex.{IsBytes}
use Rattle.phase0_types.specs.Shapes.{Shape, byte_vector, uint64, bit_list, uint64_list, list, vector, container, Fields, no_fields, field}
use Rattle.phase0_types.specs.Values.{ValueOf, FieldsOf}

unfoldable mutual
  -- numbers and bytes are in range, and lists have a length that the shape allows
  pub Fits : (shape : Shape) → ValueOf shape → Type 0
  Fits (byte_vector n) value = (length value ≡ n) × IsBytes value
  Fits uint64 value = value < 2 ^ 64
  Fits (bit_list limit) value = length value ≤ limit
  Fits (uint64_list limit) value = (length value ≤ limit) × All (λ number. number < 2 ^ 64) value
  Fits (list shape limit) value = (length value ≤ limit) × All (Fits shape) value
  Fits (vector shape n) value = (length value ≡ n) × All (Fits shape) value
  Fits (container fields) value = AllFit fields value

  pub AllFit : (fields : Fields) → FieldsOf fields → Type 0
  AllFit no_fields values = Unit {0}
  AllFit (field member shape fields) values = Fits shape values.0 × AllFit fields values.1
