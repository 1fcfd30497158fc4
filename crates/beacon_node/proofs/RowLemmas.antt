-- The elements of a list, one after another.
use Rattle.std.proofs.Common.{◌≡◌, ◌<◌, ◌≤◌, List, [], ◌∷◌, ◌++◌, Option, Some, None, codes, length, refl, sym, arith}
use Rattle.std.proofs.lemmas.Bool.{le-leb, lt-leb}
use Rattle.json_members.specs.Reading.{items_in}
use Rattle.serde_json.specs.Data.{Data}
use Rattle.serde_json.specs.declared.value.Value.{Value}
use Rattle.serde_json.specs.Events.{items_len}
use Rattle.serde_json.specs.View.{items_view}
use Rattle.node_calls.specs.Fitting.{most_rows}
use Rattle.beacon_node.specs.Readings.{◌>>=◌, duty_rows_in, each_row}

-- a reading of the rest, behind what was read
abbrev pub after : {X : Type 0} → List X → Option (List X) → Option (List X)
after xs r = r >>= (λ ys. Some (xs ++ ys))

-- a list has as many elements as are seen
pub items_long : (items : List Value) → items_len (items_view items) ≡ length items
items_long [] = refl
items_long (item ∷ items) = omega (arith, items_long items)

-- the rows of an answer about duties, by how many elements its list has
module _ {Row : Type 0} (reading : Data → Option Row) (d : Data) (items : List Value) (is : Some (items_view items) ≡ items_in (codes "data") d) where
  pub duty_rows_long : most_rows < length items → None ≡ duty_rows_in reading d
  duty_rows_long long = let count = items_long items in rw (sym is, lt-leb (items_len (items_view items)) most_rows (omega (arith, long, count))) refl

  pub duty_rows_short : length items ≤ most_rows → each_row reading (items_view items) ≡ duty_rows_in reading d
  duty_rows_short short = let count = items_long items in rw (sym is, le-leb (items_len (items_view items)) most_rows (omega (arith, short, count))) refl
