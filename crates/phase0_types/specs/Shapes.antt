-- The shape of a value (consensus-specs, "SimpleSerialize", "Typing").
use Rattle.std.specs.Prelude.{ℕ, suc}
use Rattle.phase0_types.specs.declared.member.Member.{Member}

mutual
  pub data Shape : Type 0 where
    byte_vector : ℕ → Shape
    uint64 : Shape
    bit_list : ℕ → Shape
    uint64_list : ℕ → Shape
    list : Shape → ℕ → Shape
    vector : Shape → ℕ → Shape
    container : Fields → Shape

  pub data Fields : Type 0 where
    no_fields : Fields
    field : Member → Shape → Fields → Fields

-- how many fields there are
abbrev pub field_count : Fields → ℕ
field_count no_fields = 0
field_count (field member shape fields) = suc (field_count fields)
