-- The nodes as others see them.
use Rattle.std.specs.Prelude.{ℕ, Bool, false, List, [], ◌∷◌, drop, Option, unwrap_or, slice_get}
use Rattle.node_calls.specs.declared.told.NodeCall.{NodeCall}

-- a node: what it tells, its count of faults, and whether it was syncing when the nodes were last refreshed
pub record Seen : Type 0 where
  pub told : Option (List NodeCall)
  pub faults : ℕ
  pub syncing : Bool

-- the nodes in order, with their flags; a node without one is not syncing
abbrev pub seen_of : {N : Type 0} → (N → Option (List NodeCall)) → (N → ℕ) → List N → List Bool → List Seen
seen_of told faults [] flags = []
seen_of told faults (n ∷ ns) flags = record { told = told n; faults = faults n; syncing = unwrap_or (slice_get flags 0) false } ∷ seen_of told faults ns (drop 1 flags)
