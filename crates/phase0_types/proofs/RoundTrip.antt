-- What was written of a value is read as that value.
use Rattle.std.proofs.Common.{◌≡◌, ℕ, ◌^◌, ◌<◌, true, not, List, [], ◌∷◌, length, map, refl, sym, ◌∙◌, ap, arith, Option, Some, Result, Ok, Err, IfOk, OnOk}
use Rattle.std.specs.Prelude.{All, decimal}
use Rattle.std.specs.Str.{bytes_eq}
use Rattle.std.proofs.lemmas.Bool.{and_parts, not-true, le-leb, eq-eqb, both_ways}
use Rattle.std.proofs.lemmas.Slice.Eq.{bytes_eq-Decides}
use Rattle.std.proofs.lemmas.List.Elements.{All-weaker, All-head, All-tail}
use Rattle.serde_json.specs.Data.{Data, string, object, Members, put}
use Rattle.serde_json.specs.Find.{get_member}
use Rattle.serde_json.specs.View.{items_of, view}
use Rattle.serde_json.specs.declared.value.Value.{Value}
use Rattle.serde_json.proofs.Views.{get_member-put, get_member-put_other}
use Rattle.phase0_types.specs.declared.member.Member.{Member}
use Rattle.phase0_types.specs.declared.fault.ReadFault.{ReadFault}
use Rattle.phase0_types.specs.Shapes.{Shape, byte_vector, uint64, bit_list, uint64_list, list, vector, container, Fields, no_fields, field}
use Rattle.phase0_types.specs.Values.{ValueOf, FieldsOf}
use Rattle.phase0_types.specs.Members.{member_name}
use Rattle.phase0_types.specs.Reading.{number_at, item_count, each_item, read_at, read_fields}
use Rattle.phase0_types.specs.Writing.{write, write_fields}
use Rattle.phase0_types.specs.Fitting.{Fits, AllFit}
use Rattle.phase0_types.specs.Names.{is_new, has_names, have_names}
use Rattle.phase0_types.proofs.BitLemmas.{bits_of_text-hex_text}
use Rattle.phase0_types.proofs.TextLemmas.{quoted_number-decimal, hex_bytes-hex_text}

-- ---- the members of an object

-- the object has each field's value at its name
abbrev Holds : (fields : Fields) → FieldsOf fields → Members → Type 0
Holds no_fields values object_members = Unit {0}
Holds (field member shape fields) values object_members = (get_member (member_name member) object_members ≡ Some (write shape values.0)) × Holds fields values.1 object_members

other_name : (name other : List ℕ) → not (bytes_eq name other) ≡ true → other ≡ name → ⊥
other_name name other new same = both_ways (bytes_eq name other) (not-true _ new) ((bytes_eq-Decides name other).1 (sym same))

Holds-put : (name : List ℕ) (d : Data) (fields : Fields) (values : FieldsOf fields) (object_members : Members) → is_new name fields ≡ true → Holds fields values object_members → Holds fields values (put name d object_members)
Holds-put name d no_fields values object_members new holds = tt
Holds-put name d (field member shape fields) values object_members new holds =
    let parts = and_parts _ _ new in
    (get_member-put_other (member_name member) name d object_members (other_name name (member_name member) parts.0) ∙ holds.0, Holds-put name d fields values.1 object_members parts.1 holds.1)

Holds-written : (fields : Fields) (values : FieldsOf fields) → have_names fields ≡ true → Holds fields values (write_fields fields values)
unfolding write_fields have_names
Holds-written no_fields values names = tt
Holds-written (field member shape fields) values names =
    let parts = and_parts _ _ names in
    let rest = and_parts _ _ parts.1 in
    (get_member-put (member_name member) (write shape values.0) (write_fields fields values.1), Holds-put (member_name member) (write shape values.0) fields values.1 (write_fields fields values.1) parts.0 (Holds-written fields values.1 rest.1))

-- ---- the elements of an array

item_count-items_of : {X : Type 0} (writing : X → Data) (xs : List X) → item_count (items_of (map writing xs)) ≡ length xs
item_count-items_of writing [] = refl
item_count-items_of writing (x ∷ xs) = omega (arith, item_count-items_of writing xs)

each_back : {X : Type 0} (reading : Data → Result X ReadFault) (writing : X → Data) (xs : List X) → All (λ x. reading (writing x) ≡ Ok x) xs → each_item reading (items_of (map writing xs)) ≡ Ok xs
each_back reading writing [] back = refl
each_back reading writing (x ∷ xs) back =
    rw (All-head (λ x. reading (writing x) ≡ Ok x) x xs back, each_back reading writing xs (All-tail (λ x. reading (writing x) ≡ Ok x) x xs back))

number_back : (place : Option Member) (n : ℕ) → n < 2 ^ 64 → number_at place (string (decimal n)) ≡ Ok n
number_back place n small = rw (quoted_number-decimal n small)

-- ---- values

mutual
  unfolding read_at write has_names Fits

  -- at any place, a value that fits is read as what was written
  pub read_back : (shape : Shape) (place : Option Member) (value : ValueOf shape) → has_names shape ≡ true → Fits shape value → read_at shape place (write shape value) ≡ Ok value
  read_back (byte_vector n) place value names fits = rw (hex_bytes-hex_text n value fits.0 fits.1)
  read_back uint64 place value names fits = number_back place value fits
  read_back (bit_list limit) place value names fits = rw (bits_of_text-hex_text value, le-leb (length value) limit fits)
  read_back (uint64_list limit) place value names fits =
      rw (item_count-items_of (λ n. string (decimal n)) value, le-leb (length value) limit fits.0) (each_back (number_at place) (λ n. string (decimal n)) value (All-weaker (λ n. n < 2 ^ 64) (λ n. number_at place (string (decimal n)) ≡ Ok n) (number_back place) value fits.1))
  read_back (list shape limit) place value names fits =
      rw (item_count-items_of (write shape) value, le-leb (length value) limit fits.0) (each_back (read_at shape place) (write shape) value (All-weaker (Fits shape) (λ x. read_at shape place (write shape x) ≡ Ok x) (λ x fit. read_back shape place x names fit) value fits.1))
  read_back (vector shape n) place value names fits =
      rw (item_count-items_of (write shape) value, eq-eqb (length value) n fits.0) (each_back (read_at shape place) (write shape) value (All-weaker (Fits shape) (λ x. read_at shape place (write shape x) ≡ Ok x) (λ x fit. read_back shape place x names fit) value fits.1))
  read_back (container fields) place value names fits = fields_back fields value (write_fields fields value) names fits (Holds-written fields value names)

  pub fields_back : (fields : Fields) (values : FieldsOf fields) (object_members : Members) → have_names fields ≡ true → AllFit fields values → Holds fields values object_members → read_fields fields (object object_members) ≡ Ok values
  fields_back no_fields values object_members names fits holds = refl
  fields_back (field member shape fields) values object_members names fits holds =
      let parts = and_parts _ _ names in
      let rest = and_parts _ _ parts.1 in
      rw (holds.0, read_back shape (Some member) values.0 rest.0 fits.0, fields_back fields values.1 object_members rest.1 fits.1 holds.1)

-- the same of a result that may lack memory
pub reads_back : {E : Type 0} (shape : Shape) (place : Option Member) (value : ValueOf shape) (r : Result Value E) → has_names shape ≡ true → IfOk r (λ json. view json ≡ write shape value) → OnOk r (Fits shape value) → IfOk r (λ json. read_at shape place (view json) ≡ Ok value)
reads_back shape place value (Ok json) names written fits = ap (read_at shape place) written ∙ read_back shape place value names fits
reads_back shape place value (Err e) names written fits = tt
