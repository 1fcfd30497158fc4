-- One node's turn.
use Rattle.std.specs.Prelude.{◌≡◌, ◌≤◌, ℕ, Bool, List, Option, Some, None, Result, Ok, Err, IfOk, OnOk}
use Rattle.std.specs.declared.alloc.AllocError.{AllocError}
use Rattle.edge_kit.specs.Causes.{Rose}
use Rattle.edge_kit.specs.Tellings.{Tells}
use Rattle.node_calls.specs.Asking.{told_ask}
use Rattle.node_calls.specs.declared.answer.Answer.{Answer}
use Rattle.node_calls.specs.declared.answer.NodeFault.{NodeFault}
use Rattle.node_calls.specs.declared.answer.NodeFault.TheVariants as fault
use Rattle.node_calls.specs.declared.ask.Ask.TheVariants as ask
use Rattle.node_calls.specs.declared.told.NodeCall.{NodeCall}
use Rattle.node_fallback.specs.declared.no_node.Cause.TheVariants as cause
use Rattle.node_fallback.specs.declared.one_node.Refused.{Refused}
use Rattle.node_fallback.specs.declared.one_node.Refused.TheVariants as refused
use Rattle.node_fallback.specs.InOrder.{IsTried}
use Rattle.node_fallback.specs.Refreshing.{IsGiven, says_syncing}
use Rattle.node_fallback.specs.Seen.{Seen}

-- a node with its flag, as others see it
abbrev pub place_seen : {N : Type 0} → (N → Option (List NodeCall)) → (N → ℕ) → N → Bool → Seen
place_seen told faults node syncing = record { told = told node; faults = faults node; syncing = syncing }

-- a fault as the cause that is named
abbrev pub refusal : NodeFault → Refused
refusal fault.Fault = refused.Because cause.Fault
refusal (fault.Status status) = refused.Because (cause.Status status)
refusal (fault.Unreadable body) = refused.Because (cause.Unreadable body)
refusal fault.OutOfMemory = refused.OutOfMemory

-- what comes of a turn; without a reply the node was passed over
abbrev pub came_of : {A : Type 0} → Option (Result A NodeFault) → Result A Refused
came_of None = Err (refused.Because cause.Syncing)
came_of (Some (Ok value)) = Ok value
came_of (Some (Err why)) = Err (refusal why)

-- a node had its turn, and this came of it
pub record IsTurn {A : Type 0} (told : Result A NodeFault → List NodeCall) (old new : Seen) (result : Result A Refused) : Type 0 where
  pub reply : Option (Result A NodeFault)
  pub tried : IsTried told old reply new
  pub came : result ≡ came_of reply

-- a node was asked whether it is syncing; the flag is what its reply says
pub record IsHeard {N : Type 0} (told : N → Option (List NodeCall)) (faults : N → ℕ) (old new : N) (result : Result Bool AllocError) : Type 0 where
  pub reply : Result Answer NodeFault
  pub tells : Tells (told old) (told new) (told_ask ask.Syncing reply)
  pub later : faults old ≤ faults new
  pub fault : reply ≡ Err fault.Fault → Rose (faults old) (faults new)
  pub says : IfOk result (λ flag. flag ≡ says_syncing reply)
  pub given : OnOk result (IsGiven reply)
