-- Nodes tried in order: the first that gives something ends it.
use Rattle.std.specs.Prelude.{◌≡◌, ◌⊎◌, ◌≤◌, Bool, true, false, List, [], ◌∷◌, Option, Some, None, Result, Ok, Err, ⊤}
use Rattle.edge_kit.specs.Causes.{Rose}
use Rattle.edge_kit.specs.Tellings.{Tells}
use Rattle.node_calls.specs.declared.answer.NodeFault.{NodeFault}
use Rattle.node_calls.specs.declared.answer.NodeFault.TheVariants as fault
use Rattle.node_calls.specs.declared.told.NodeCall.{NodeCall}
use Rattle.node_fallback.specs.declared.no_node.Cause.{Cause}
use Rattle.node_fallback.specs.declared.no_node.Cause.TheVariants as cause
use Rattle.node_fallback.specs.declared.no_node.NoAnswer.{NoAnswer}
use Rattle.node_fallback.specs.declared.no_node.NoAnswer.TheVariants as none
use Rattle.node_fallback.specs.Seen.{Seen}

-- a node is called exactly where it is not syncing; where it was passed over there is no reply
abbrev pub HasTurn : {A : Type 0} → Bool → Option (Result A NodeFault) → Type 0
HasTurn syncing None = syncing ≡ true
HasTurn syncing (Some reply) = syncing ≡ false

-- what it tells of its turn
abbrev pub told_turn : {A : Type 0} → (Result A NodeFault → List NodeCall) → Option (Result A NodeFault) → List NodeCall
told_turn told None = []
told_turn told (Some reply) = told reply

-- what became of one node: it tells just its turn, and failed only where its count of faults rose
pub record IsTried {A : Type 0} (told : Result A NodeFault → List NodeCall) (old : Seen) (reply : Option (Result A NodeFault)) (new : Seen) : Type 0 where
  pub turn : HasTurn old.syncing reply
  pub syncing : new.syncing ≡ old.syncing
  pub tells : Tells old.told new.told (told_turn told reply)
  pub later : old.faults ≤ new.faults
  pub fault : reply ≡ Some (Err fault.Fault) → Rose old.faults new.faults

-- so of the first nodes, a reply each; the others were not touched
abbrev pub AreTried : {A : Type 0} → (Result A NodeFault → List NodeCall) → List Seen → List (Option (Result A NodeFault)) → List Seen → Type 0
AreTried told old [] new = new ≡ old
AreTried told [] (reply ∷ replies) new = ⊥
AreTried told (o ∷ old) (reply ∷ replies) [] = ⊥
AreTried told (o ∷ old) (reply ∷ replies) (n ∷ new) = IsTried told o reply n × AreTried told old replies new

-- whether a reply ends the trying: it gives something, or memory ran out
abbrev pub ends : {A : Type 0} → Option (Result A NodeFault) → Bool
ends None = false
ends (Some (Ok value)) = true
ends (Some (Err fault.Fault)) = false
ends (Some (Err (fault.Status status))) = false
ends (Some (Err (fault.Unreadable body))) = false
ends (Some (Err fault.OutOfMemory)) = true

-- the first that ends it is the last; where none does, each node has its reply
abbrev pub EndsWith : {A : Type 0} → Bool → List Seen → List (Option (Result A NodeFault)) → Type 0
EndsWith true nodes replies = replies ≡ []
EndsWith false [] [] = ⊤
EndsWith false [] (reply ∷ replies) = ⊥
EndsWith false (n ∷ nodes) [] = ⊥
EndsWith false (n ∷ nodes) (reply ∷ replies) = EndsWith (ends reply) nodes replies

-- why each refused, up to the one that ends it
abbrev pub causes : {A : Type 0} → List (Option (Result A NodeFault)) → List Cause
causes [] = []
causes (None ∷ replies) = cause.Syncing ∷ causes replies
causes (Some (Ok value) ∷ replies) = []
causes (Some (Err fault.Fault) ∷ replies) = cause.Fault ∷ causes replies
causes (Some (Err (fault.Status status)) ∷ replies) = cause.Status status ∷ causes replies
causes (Some (Err (fault.Unreadable body)) ∷ replies) = cause.Unreadable body ∷ causes replies
causes (Some (Err fault.OutOfMemory) ∷ replies) = []

-- what comes of it: what the one that ends it gives, and else all these causes
abbrev pub given_by : {A : Type 0} → List Cause → List (Option (Result A NodeFault)) → Result A NoAnswer
given_by refused [] = Err (none.NoNode refused)
given_by refused (None ∷ replies) = given_by refused replies
given_by refused (Some (Ok value) ∷ replies) = Ok value
given_by refused (Some (Err fault.Fault) ∷ replies) = given_by refused replies
given_by refused (Some (Err (fault.Status status)) ∷ replies) = given_by refused replies
given_by refused (Some (Err (fault.Unreadable body)) ∷ replies) = given_by refused replies
given_by refused (Some (Err fault.OutOfMemory) ∷ replies) = Err none.OutOfMemory

-- the nodes were tried in order, by what one tells of its reply
pub record TriedInOrder {A : Type 0} (told : Result A NodeFault → List NodeCall) (old new : List Seen) (result : Result A NoAnswer) : Type 0 where
  pub replies : List (Option (Result A NodeFault))
  pub tried : AreTried told old replies new
  pub whole : EndsWith false old replies
  pub given : result ≡ given_by (causes replies) replies

-- or memory ran out before any was
abbrev pub Tries : {A : Type 0} → (Result A NodeFault → List NodeCall) → List Seen → List Seen → Result A NoAnswer → Type 0
Tries told old new result = TriedInOrder told old new result ⊎ ((result ≡ Err none.OutOfMemory) × (new ≡ old))
