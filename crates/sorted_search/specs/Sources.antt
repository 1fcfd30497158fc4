-- The bounds of the sources of votes in a row.
use Rattle.std.specs.Prelude.{◌≡◌, ℕ, ◌<◌, ◌≤◌, List, length, slice_index_or}
use Rattle.slash_defs.specs.declared.entry.VoteEntry.{VoteEntry}

-- the greatest source up to a place: none is greater, and one is equal
pub record IsGreatestTo (votes : List VoteEntry) (place bound : ℕ) : Type 0 where
  pub none_greater : (k : ℕ) (d : VoteEntry) → k ≤ place → (slice_index_or votes k d).source ≤ bound
  pub at : ℕ
  pub up_to : at ≤ place
  pub one_equal : (d : VoteEntry) → (slice_index_or votes at d).source ≡ bound

-- the least source from a place on: none is less, and one is equal
pub record IsLeastFrom (votes : List VoteEntry) (place bound : ℕ) : Type 0 where
  pub none_less : (k : ℕ) (d : VoteEntry) → place ≤ k → k < length votes → bound ≤ (slice_index_or votes k d).source
  pub at : ℕ
  pub from : place ≤ at
  pub within : at < length votes
  pub one_equal : (d : VoteEntry) → (slice_index_or votes at d).source ≡ bound

-- for each vote the greatest source up to it
pub record AreGreatest (votes : List VoteEntry) (bounds : List ℕ) : Type 0 where
  pub len : length bounds ≡ length votes
  pub each : (k : ℕ) (d : ℕ) → k < length votes → IsGreatestTo votes k (slice_index_or bounds k d)

-- for each vote the least source from it on
pub record AreLeast (votes : List VoteEntry) (bounds : List ℕ) : Type 0 where
  pub len : length bounds ≡ length votes
  pub each : (k : ℕ) (d : ℕ) → k < length votes → IsLeastFrom votes k (slice_index_or bounds k d)

-- what contracts see of kept bounds: the two lists, and for how many votes there is room
pub record Bounds : Type 0 where
  pub greatest : List ℕ
  pub least : List ℕ
  pub capacity : ℕ

-- they are those of these votes, for which there is room
pub record AreBounds (votes : List VoteEntry) (bounds : Bounds) : Type 0 where
  pub greatest : AreGreatest votes bounds.greatest
  pub least : AreLeast votes bounds.least
  pub room : length votes ≤ bounds.capacity
