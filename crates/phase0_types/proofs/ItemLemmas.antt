-- The elements of arrays, one after another.
use Rattle.std.proofs.Common.{◌≡◌, ℕ, ◌<◌, ◌≤◌, List, [], ◌∷◌, ◌++◌, length, refl, sym, arith, Option, Some, Result, Ok, Err}
use Rattle.std.proofs.lemmas.Bool.{le-leb, lt-leb, eq-eqb, ne_eqb}
use Rattle.serde_json.specs.Data.{Data, Items}
use Rattle.serde_json.specs.Find.{as_array}
use Rattle.serde_json.specs.View.{items_view}
use Rattle.serde_json.specs.declared.value.Value.{Value}
use Rattle.phase0_types.specs.declared.member.Member.{Member}
use Rattle.phase0_types.specs.declared.fault.ReadFault.TheVariants as fault
use Rattle.phase0_types.specs.declared.fault.ReadFault.{ReadFault}
use Rattle.phase0_types.specs.Faults.{◌>>=◌, fault_at}
use Rattle.phase0_types.specs.Shapes.{Shape, list, vector}
use Rattle.phase0_types.specs.Reading.{item_count, each_item, read_at}

-- a reading of the rest, behind what was read
abbrev pub after : {X : Type 0} → List X → Result (List X) ReadFault → Result (List X) ReadFault
after xs r = r >>= (λ ys. Ok (xs ++ ys))

pub item_count-items_view : (items : List Value) → item_count (items_view items) ≡ length items
item_count-items_view [] = refl
item_count-items_view (item ∷ items) = omega (arith, item_count-items_view items)

-- ---- lists and vectors by the length of their array

module _ (shape : Shape) (limit : ℕ) (place : Option Member) (d : Data) (items : Items) (is : Some items ≡ as_array d) where
  pub list_within : item_count items ≤ limit → read_at (list shape limit) place d ≡ each_item (read_at shape place) items
  unfolding read_at
  list_within few = rw (sym is, le-leb (item_count items) limit few)

  pub list_above : limit < item_count items → read_at (list shape limit) place d ≡ Err (fault_at fault.TooLong place)
  unfolding read_at
  list_above many = rw (sym is, lt-leb (item_count items) limit many)

  pub vector_equal : item_count items ≡ limit → read_at (vector shape limit) place d ≡ each_item (read_at shape place) items
  unfolding read_at
  vector_equal same = rw (sym is, eq-eqb (item_count items) limit same)

  pub vector_other : (item_count items ≡ limit → ⊥) → read_at (vector shape limit) place d ≡ Err (fault_at fault.TooLong place)
  unfolding read_at
  vector_other other = rw (sym is, ne_eqb (item_count items) limit other)
