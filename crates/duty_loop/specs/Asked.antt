-- Keys that were asked for by their indices.
use Rattle.std.specs.Prelude.{◌≡◌, ◌==◌, ℕ, Bool, List, [], ◌∷◌, ◌++◌, filter, map, Option, Some, None}
use Rattle.std.specs.List.{filter_map}
use Rattle.std.specs.List.Sorted.{IsSortedByKey}
use Rattle.std.specs.Ordering.{nat_cmp}
use Rattle.edge_kit.specs.declared.bytes.PubKey.{PubKey}
use Rattle.record_join.specs.Keys.{kept_of}
use Rattle.duty_turns.specs.Turns.{is_asked_by}

-- a key, and its index before it
abbrev pub AskedKey : Type 0
AskedKey = ℕ × PubKey

abbrev pub with_index : PubKey → Option ℕ → Option AskedKey
with_index key None = None
with_index key (Some index) = Some (index, key)

-- with one more after them, if there is one
abbrev pub with_asked : List AskedKey → Option AskedKey → List AskedKey
with_asked asked None = asked
with_asked asked (Some one) = asked ++ one ∷ []

-- the keys that have an index, each with it, in their order
abbrev pub asked_keys : List (PubKey × ℕ) → List PubKey → List AskedKey
asked_keys indices keys = filter_map (λ key. with_index key (kept_of indices key)) keys

-- a note of each
abbrev pub notes_on : Bool → List AskedKey → List (PubKey × Bool)
notes_on live asked = map (λ (a : AskedKey). (a.1, live)) asked

-- the keys that have an index, by index, and those of one index in their order
pub record IsByIndex (indices : List (PubKey × ℕ)) (keys : List PubKey) (asked : List AskedKey) : Type 0 where
  pub rising : IsSortedByKey (λ (a : AskedKey). a.0) nat_cmp asked
  pub of_index : (index : ℕ) → map (λ (a : AskedKey). a.1) (filter (λ (a : AskedKey). a.0 == index) asked) ≡ filter (is_asked_by indices index) keys
