-- What it means that nodes were tried in order.
use Rattle.std.specs.Prelude.{◌≡◌, ◌<◌, ◌↔◌, ℕ, true, List, [], length, Option, Some, None, Result, Ok, Err, IsSomeAnd, slice_get, ⊤}
use Rattle.edge_kit.specs.Causes.{Rose}
use Rattle.node_calls.specs.declared.answer.NodeFault.{NodeFault}
use Rattle.node_calls.specs.declared.answer.NodeFault.TheVariants as fault
use Rattle.node_fallback.specs.declared.no_node.Cause.{Cause}
use Rattle.node_fallback.specs.declared.no_node.Cause.TheVariants as cause
use Rattle.edge_kit.specs.Tellings.{Tells}
use Rattle.node_calls.specs.declared.told.NodeCall.{NodeCall}
use Rattle.node_fallback.specs.InOrder.{IsTried}
use Rattle.node_fallback.specs.Seen.{Seen}

-- a node was passed over, or refused
abbrev pub GaveNothing : {A : Type 0} → Option (Result A NodeFault) → Type 0
GaveNothing None = ⊤
GaveNothing (Some (Ok value)) = ⊥
GaveNothing (Some (Err fault.Fault)) = ⊤
GaveNothing (Some (Err (fault.Status status))) = ⊤
GaveNothing (Some (Err (fault.Unreadable body))) = ⊤
GaveNothing (Some (Err fault.OutOfMemory)) = ⊥

-- a node had its turn and gave nothing: it was passed over since it was syncing, or told its refusal
pub record HadNothing {A : Type 0} (told : Result A NodeFault → List NodeCall) (before now : Seen) : Type 0 where
  pub reply : Option (Result A NodeFault)
  pub nothing : GaveNothing reply
  pub tried : IsTried told before reply now

-- the value is what the node at this place gave and told, which was not syncing; each in front of it gave nothing, and
-- those after it were not touched
pub record ComesFrom {A : Type 0} (told : Result A NodeFault → List NodeCall) (old new : List Seen) (value : A) (place : ℕ) : Type 0 where
  pub before : Seen
  pub now : Seen
  pub was : slice_get old place ≡ Some before
  pub is : slice_get new place ≡ Some now
  pub gave : IsTried told before (Some (Ok value)) now
  pub front : (k : ℕ) (o n : Seen) → k < place → slice_get old k ≡ Some o → slice_get new k ≡ Some n → HadNothing told o n
  pub behind : (k : ℕ) → place < k → slice_get new k ≡ slice_get old k

-- what a node tells that refused for this cause
abbrev pub told_cause : {A : Type 0} → (Result A NodeFault → List NodeCall) → Cause → List NodeCall
told_cause told cause.Fault = told (Err fault.Fault)
told_cause told (cause.Status status) = told (Err (fault.Status status))
told_cause told (cause.Unreadable body) = told (Err (fault.Unreadable body))
told_cause told cause.Syncing = []

-- there is a cause for each node, which is what the node tells; one is named as syncing exactly where it was flagged so,
-- and as failed only where its count of faults rose
pub record NamesEach {A : Type 0} (told : Result A NodeFault → List NodeCall) (causes : List Cause) (old new : List Seen) : Type 0 where
  pub each : length causes ≡ length old
  pub syncing : (k : ℕ) → (slice_get causes k ≡ Some cause.Syncing) ↔ IsSomeAnd (slice_get old k) (λ node. node.syncing ≡ true)
  pub failed : (k : ℕ) (before now : Seen) → slice_get causes k ≡ Some cause.Fault → slice_get old k ≡ Some before → slice_get new k ≡ Some now → Rose before.faults now.faults
  pub tells : (k : ℕ) (before now : Seen) (why : Cause) → slice_get causes k ≡ Some why → slice_get old k ≡ Some before → slice_get new k ≡ Some now → Tells before.told now.told (told_cause told why)
