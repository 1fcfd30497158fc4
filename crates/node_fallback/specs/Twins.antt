-- The twins of nodes.
use Rattle.std.specs.Prelude.{◌≡◌, ℕ, Bool, List, Option}
use Rattle.std.specs.List.{AllZip}
use Rattle.node_calls.specs.declared.told.NodeCall.{NodeCall}

-- a node's twin: it tells the same, and none of its own failures is counted yet
pub record IsTwin {N : Type 0} (told : N → Option (List NodeCall)) (faults : N → ℕ) (node twin : N) : Type 0 where
  pub tells : told twin ≡ told node
  pub unfailed : faults twin ≡ 0

-- as many nodes, each the twin of the one at its place
abbrev pub EachTwin : {N : Type 0} → (N → Option (List NodeCall)) → (N → ℕ) → List N → List N → Type 0
EachTwin told faults nodes twins = AllZip (IsTwin told faults) nodes twins

-- the same with the nodes' flags, which stay
pub record AreTwins {N : Type 0} (told : N → Option (List NodeCall)) (faults : N → ℕ) (nodes : List N) (syncing : List Bool) (twins : List N) (flags : List Bool) : Type 0 where
  pub each : EachTwin told faults nodes twins
  pub same : flags ≡ syncing
