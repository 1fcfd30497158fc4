-- A body of Altair is read as one of phase 0 and one field more.
use Rattle.std.proofs.Common.{◌≡◌, ℕ, Bool, true, false, if◌then◌else◌, Option, Result, Ok, Err, refl, sym, ap, ◌∙◌}
use Rattle.std.specs.Prelude.{is_some}
use Rattle.serde_json.specs.Data.{Data}
use Rattle.serde_json.specs.Find.{as_object}
use Rattle.phase0_types.specs.Shapes.{Shape, container, Fields, no_fields, field}
use Rattle.phase0_types.specs.Values.{ValueOf, FieldsOf}
use Rattle.phase0_types.specs.Reading.{read_at, read_fields, member_at}
use Rattle.phase0_types.specs.Containers.{beacon_block_body}
use Rattle.phase0_types.specs.Faults.{◌>>=◌, fault_at}
use Rattle.phase0_types.specs.declared.member.Member.{Member}
use Rattle.phase0_types.specs.declared.member.Member.TheVariants as member
use Rattle.phase0_types.specs.declared.fault.ReadFault.{ReadFault}
use Rattle.phase0_types.specs.declared.fault.ReadFault.TheVariants as fault
use Rattle.phase0_blocks.specs.Blocks.{beacon_block_body_value}
use Rattle.altair_blocks.specs.Blocks.{altair_block_body_value, sync_aggregate_value}
use Rattle.altair_blocks.specs.Containers.{sync_aggregate, altair_block_body}
use Rattle.altair_blocks.specs.declared.block.AltairBlockBody.{AltairBlockBody}

-- one field more, and its value
abbrev with_field : Fields → Member → Shape → Fields
with_field no_fields m s = field m s no_fields
with_field (field n t fields) m s = field n t (with_field fields m s)

abbrev with_value : (fields : Fields) (m : Member) (s : Shape) → FieldsOf fields → ValueOf s → FieldsOf (with_field fields m s)
with_value no_fields m s values value = (value, tt)
with_value (field n t fields) m s values value = (values.0, with_value fields m s values.1 value)

read_more : (fields : Fields) (m : Member) (s : Shape) (d : Data)
    → read_fields (with_field fields m s) d ≡ (read_fields fields d >>= (λ values. member_at (read_at s) m d >>= (λ value. Ok (with_value fields m s values value))))
unfolding read_at
read_more no_fields m s d = refl
read_more (field n t fields) m s d = first (read_more fields m s d) (member_at (read_at t) n d) where
  with : ValueOf t → Result (FieldsOf (with_field fields m s)) ReadFault → Result (FieldsOf (with_field (field n t fields) m s)) ReadFault
  with x r = r >>= (λ all. Ok (x, all))

  last : (x : ValueOf t) (values : FieldsOf fields) (r : Result (ValueOf s) ReadFault)
      → with x (r >>= (λ value. Ok (with_value fields m s values value))) ≡ (r >>= (λ value. Ok (with_value (field n t fields) m s (x, values) value)))
  last x values (Ok value) = refl
  last x values (Err e) = refl

  rest : (x : ValueOf t) (r : Result (FieldsOf fields) ReadFault) (q : Result (FieldsOf (with_field fields m s)) ReadFault)
      → q ≡ (r >>= (λ values. member_at (read_at s) m d >>= (λ value. Ok (with_value fields m s values value))))
      → (q >>= (λ all. Ok (x, all))) ≡ ((r >>= (λ values. Ok (x, values))) >>= (λ values. member_at (read_at s) m d >>= (λ value. Ok (with_value (field n t fields) m s values value))))
  rest x (Ok values) q is = ap (with x) is ∙ last x values (member_at (read_at s) m d)
  rest x (Err e) q is = ap (with x) is

  first : read_fields (with_field fields m s) d ≡ (read_fields fields d >>= (λ values. member_at (read_at s) m d >>= (λ value. Ok (with_value fields m s values value))))
      → (r : Result (ValueOf t) ReadFault)
      → (r >>= (λ x. read_fields (with_field fields m s) d >>= (λ all. Ok (x, all)))) ≡ ((r >>= (λ x. read_fields fields d >>= (λ values. Ok (x, values)))) >>= (λ values. member_at (read_at s) m d >>= (λ value. Ok (with_value (field n t fields) m s values value))))
  first more (Ok x) = rest x (read_fields fields d) (read_fields (with_field fields m s) d) more
  first more (Err e) = refl

-- a body with its sync aggregate
body_with : ValueOf beacon_block_body → ValueOf sync_aggregate → ValueOf altair_block_body
unfolding beacon_block_body altair_block_body
body_with v s = (v.0, (v.1.0, (v.1.1.0, (v.1.1.1.0, (v.1.1.1.1.0, (v.1.1.1.1.1.0, (v.1.1.1.1.1.1.0, (v.1.1.1.1.1.1.1.0, (s, tt)))))))))

-- the fields of a container
abbrev fields_of : Shape → Fields
fields_of (container fields) = fields
fields_of _ = no_fields

read_body : (place : Option Member) (d : Data)
    → read_at altair_block_body place d ≡ (read_at beacon_block_body place d >>= (λ values. member_at (read_at sync_aggregate) member.SyncAggregate d >>= (λ value. Ok (body_with values value))))
unfolding read_at beacon_block_body altair_block_body sync_aggregate body_with
read_body place d = at (is_some (as_object d)) where
  fields : Fields
  fields = fields_of beacon_block_body

  at : (b : Bool)
      → (if b then read_fields (with_field fields member.SyncAggregate sync_aggregate) d else Err (fault_at fault.Missing place))
      ≡ ((if b then read_fields fields d else Err (fault_at fault.Missing place)) >>= (λ values. member_at (read_at sync_aggregate) member.SyncAggregate d >>= (λ value. Ok (with_value fields member.SyncAggregate sync_aggregate values value))))
  at false = refl
  at true = read_more fields member.SyncAggregate sync_aggregate d

pub body_fault : (place : Option Member) (d : Data) (e : ReadFault) → Err e ≡ read_at beacon_block_body place d → Err e ≡ read_at altair_block_body place d
body_fault place d e is = sym (read_body place d ∙ rw (sym is))

pub aggregate_fault : (place : Option Member) (d : Data) (v : ValueOf beacon_block_body) (e : ReadFault) → Ok v ≡ read_at beacon_block_body place d
    → Err e ≡ member_at (read_at sync_aggregate) member.SyncAggregate d → Err e ≡ read_at altair_block_body place d
aggregate_fault place d v e is faulty = sym (read_body place d ∙ rw (sym is, sym faulty))

pub whole_body : (place : Option Member) (d : Data) (b : AltairBlockBody) → Ok (beacon_block_body_value b.phase0) ≡ read_at beacon_block_body place d
    → Ok (sync_aggregate_value b.sync_aggregate) ≡ member_at (read_at sync_aggregate) member.SyncAggregate d → Ok (altair_block_body_value b) ≡ read_at altair_block_body place d
unfolding body_with beacon_block_body_value altair_block_body_value
whole_body place d b is aggregate = sym (read_body place d ∙ rw (sym is, sym aggregate))
