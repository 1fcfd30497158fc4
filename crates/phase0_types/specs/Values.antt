-- The values of a shape.
use Rattle.std.specs.Prelude.{ℕ, List, Bool}
use Rattle.phase0_types.specs.Shapes.{Shape, byte_vector, uint64, bit_list, uint64_list, list, vector, container, Fields, no_fields, field}

abbrev mutual
  pub ValueOf : Shape → Type 0
  ValueOf (byte_vector n) = List ℕ
  ValueOf uint64 = ℕ
  ValueOf (bit_list limit) = List Bool
  ValueOf (uint64_list limit) = List ℕ
  ValueOf (list shape limit) = List (ValueOf shape)
  ValueOf (vector shape n) = List (ValueOf shape)
  ValueOf (container fields) = FieldsOf fields

  pub FieldsOf : Fields → Type 0
  FieldsOf no_fields = Unit {0}
  FieldsOf (field member shape fields) = ValueOf shape × FieldsOf fields
