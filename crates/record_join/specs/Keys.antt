-- Things kept by key, in the order of the keys.
use Rattle.std.specs.Prelude.{◌≡◌, List, [], ◌∷◌, Option}
use Rattle.std.specs.Ordering.{nat_cmp}
use Rattle.std.specs.declared.cmp.Ordering.{Ordering}
use Rattle.std.specs.Cmp.Lexicographic.{slice_cmp}
use Rattle.std.specs.BTreeMap.{is_at, insert_entry}
use Rattle.std.specs.Map.{lookup, set_value}
use Rattle.edge_kit.specs.declared.bytes.PubKey.{PubKey}

-- byte by byte
abbrev pub key_cmp : PubKey → PubKey → Ordering
key_cmp a b = slice_cmp nat_cmp a.0 b.0

-- what is kept of a key
abbrev pub kept_of : {X : Type 0} → List (PubKey × X) → PubKey → Option X
kept_of kept key = lookup (is_at (key_cmp key)) kept

-- with a new key at its place
abbrev pub with_key : {X : Type 0} → List (PubKey × X) → PubKey → X → List (PubKey × X)
with_key kept key x = insert_entry key_cmp kept key x

-- with another thing kept of a key that is there
abbrev pub with_kept : {X : Type 0} → List (PubKey × X) → PubKey → X → List (PubKey × X)
with_kept kept key x = set_value (is_at (key_cmp key)) kept x

-- the same keys in the same places, and of each key the two things fit
abbrev pub EachKey : {X Y : Type 0} → (X → Y → Type 0) → List (PubKey × X) → List (PubKey × Y) → Type 0
EachKey R [] [] = Unit {0}
EachKey R (x ∷ xs) (y ∷ ys) = (x.0 ≡ y.0) × R x.1 y.1 × EachKey R xs ys
EachKey R [] (y ∷ ys) = ⊥
EachKey R (x ∷ xs) [] = ⊥
