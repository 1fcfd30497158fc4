-- No container that is written holds a float.
use Rattle.std.proofs.Common.{◌≡◌, ◌||◌, ℕ, Bool, true, false, List, [], ◌∷◌, map, refl}
use Rattle.std.specs.Prelude.{decimal}
use Rattle.std.specs.Ordering.{nat_cmp, match_ordering}
use Rattle.std.specs.declared.cmp.Ordering.{Ordering}
use Rattle.std.specs.declared.cmp.Ordering.TheVariants.{Less, Equal, Greater}
use Rattle.std.specs.Cmp.Lexicographic.{slice_cmp}
use Rattle.serde_json.specs.Data.{Data, string, Members, no_members, member, put}
use Rattle.serde_json.specs.View.{items_of}
use Rattle.serde_json.specs.Written.{has_float, items_have_float, members_have_float}
use Rattle.phase0_types.specs.Shapes.{Shape, byte_vector, uint64, bit_list, uint64_list, list, vector, container, Fields, no_fields, field}
use Rattle.phase0_types.specs.Values.{ValueOf, FieldsOf}
use Rattle.phase0_types.specs.Members.{member_name}
use Rattle.phase0_types.specs.Writing.{write, write_fields}

pub neither : (a b : Bool) → a ≡ false → b ≡ false → (a || b) ≡ false
neither false b p q = q
neither true b p q = p

not_left : (a b : Bool) → (a || b) ≡ false → a ≡ false
not_left false b p = refl
not_left true b p = p

not_right : (a b : Bool) → (a || b) ≡ false → b ≡ false
not_right false b p = p
not_right true false p = refl
not_right true true p = p

put_plain : (k : List ℕ) (d : Data) (ms : Members) → has_float d ≡ false → members_have_float ms ≡ false → members_have_float (put k d ms) ≡ false
put_plain k d no_members p q = neither (has_float d) false p refl
put_plain k d (member l e ms) p q = at (slice_cmp nat_cmp k l) (put_plain k d ms p (not_right (has_float e) (members_have_float ms) q)) where
  at : (o : Ordering) → members_have_float (put k d ms) ≡ false → members_have_float (match_ordering o (member k d (member l e ms)) (member l d ms) (member l e (put k d ms))) ≡ false
  at Less rest = neither (has_float d) (members_have_float (member l e ms)) p q
  at Equal rest = neither (has_float d) (members_have_float ms) p (not_right (has_float e) (members_have_float ms) q)
  at Greater rest = neither (has_float e) (members_have_float (put k d ms)) (not_left (has_float e) (members_have_float ms) q) rest

pub items_plain : {X : Type 0} (f : X → Data) (xs : List X) → ((x : X) → has_float (f x) ≡ false) → items_have_float (items_of (map f xs)) ≡ false
items_plain f [] plain = refl
items_plain f (x ∷ xs) plain = neither (has_float (f x)) (items_have_float (items_of (map f xs))) (plain x) (items_plain f xs plain)

mutual
  unfolding write

  pub write_plain : (shape : Shape) (value : ValueOf shape) → has_float (write shape value) ≡ false
  write_plain (byte_vector n) value = refl
  write_plain uint64 value = refl
  write_plain (bit_list limit) value = refl
  write_plain (uint64_list limit) value = items_plain (λ n. string (decimal n)) value (λ n. refl)
  write_plain (list shape limit) value = items_plain (write shape) value (λ x. write_plain shape x)
  write_plain (vector shape n) value = items_plain (write shape) value (λ x. write_plain shape x)
  write_plain (container fields) value = fields_plain fields value

  fields_plain : (fields : Fields) (values : FieldsOf fields) → members_have_float (write_fields fields values) ≡ false
  fields_plain no_fields values = refl
  fields_plain (field name shape fields) values = put_plain (member_name name) (write shape values.0) (write_fields fields values.1) (write_plain shape values.0) (fields_plain fields values.1)
