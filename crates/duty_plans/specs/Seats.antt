-- A desk, a signing service and beacon nodes, and what steps make of them.
use Rattle.std.specs.Prelude.{◌≡◌, ◌≤◌, ℕ, zero, suc, Bool, true, false, List, [], ◌∷◌, Option, Some, None, Result}
use Rattle.edge_kit.specs.Causes.{Rose}
use Rattle.edge_kit.specs.Tellings.{Tells}
use Rattle.desk_machine.specs.declared.call.DeskCall.{DeskCall}
use Rattle.desk_machine.specs.declared.call.DeskReply.{DeskReply}
use Rattle.signer_link.specs.declared.reply.Told.{Told}
use Rattle.client_calls.specs.Seats.{SignerSeen, SignerTells}
use Rattle.node_calls.specs.Asking.{posted, told_ask, told_post}
use Rattle.node_calls.specs.declared.answer.NodeFault.{NodeFault}
use Rattle.node_calls.specs.declared.told.NodeCall.{NodeCall}
use Rattle.node_fallback.specs.InOrder.{AreTried, EndsWith}
use Rattle.node_fallback.specs.Seen.{Seen, seen_of}
use Rattle.node_fallback.specs.declared.nodes.Nodes.{Nodes}
use Rattle.call_plans.specs.Plans.{Follows}
use Rattle.duty_plans.specs.Steps.{DutyPlan, DutyStep, Tried, Asks, Posts, Answered, Taken, Fits, step_calls, step_told, step_failed, step_denied, desk_calls, told_in, has_failed, has_denied, node_told, node_failed}
use Rattle.duty_plans.specs.Hands.{Hand, Free, MayDo, hand_after}
use Rattle.duty_plans.specs.Guards.{PostedGranted, PostsGuarded, SignsGuarded}

-- the nodes as they are seen, in order
abbrev pub nodes_seen : {N : Type 0} → (N → Option (List NodeCall)) → (N → ℕ) → Nodes N → List Seen
nodes_seen told faults nodes = seen_of told faults nodes.nodes.items nodes.syncing.items

-- all that a duty has to do with, and the grant in hand
pub record Seat (K : Type 0) : Type 0 where
  pub desk : K
  pub hand : Hand
  pub signer : SignerSeen
  pub nodes : List Seen

abbrev pub at_seat : {K : Type 0} → K → Hand → SignerSeen → List Seen → Seat K
at_seat desk hand signer nodes = record { desk = desk; hand = hand; signer = signer; nodes = nodes }

-- the nodes were tried in order, up to the first that gives something
abbrev pub AreTriedIn : {A : Type 0} → (Result A NodeFault → List NodeCall) → List Seen → Tried A → List Seen → Type 0
AreTriedIn told old None new = new ≡ old
AreTriedIn told old (Some replies) new = AreTried told old replies new × EndsWith false old replies

-- what a step makes of the nodes
abbrev pub NodesDo : List Seen → DutyStep → List Seen → Type 0
NodesDo old (Asks a, Answered tried) new = AreTriedIn (told_ask a) old tried new
NodesDo old (Posts grant p, Taken tried) new = AreTriedIn (told_post (posted grant.key grant.message p)) old tried new
NodesDo old s new = new ≡ old

-- a step leads from the one to the other
pub record Does {K : Type 0} (leads : K → List (DeskCall × DeskReply) → K → Type 0) (before : Seat K) (s : DutyStep) (now : Seat K) : Type 0 where
  pub desk : leads before.desk (step_calls s) now.desk
  pub may : MayDo before.hand s.0
  pub hand : now.hand ≡ hand_after before.hand s
  pub signer : SignerTells before.signer now.signer (step_told s) (step_failed s) (step_denied s)
  pub nodes : NodesDo before.nodes s now.nodes

-- ---- whole runs

-- a node told this more; its count of faults has not fallen, and rose where it failed; it counts as syncing as it did
pub record NodeTells (old new : Seen) (more : List NodeCall) (fails : Bool) : Type 0 where
  pub syncing : new.syncing ≡ old.syncing
  pub tells : Tells old.told new.told more
  pub later : old.faults ≤ new.faults
  pub fault : fails ≡ true → Rose old.faults new.faults

-- so each by its place
abbrev pub NodesTell : List Seen → List Seen → (ℕ → List NodeCall) → (ℕ → Bool) → Type 0
NodesTell [] [] more fails = Unit {0}
NodesTell (o ∷ old) (n ∷ new) more fails = NodeTells o n (more zero) (fails zero) × NodesTell old new (λ place. more (suc place)) (λ place. fails (suc place))
NodesTell _ _ more fails = ⊥

-- Desk, service and nodes did what the plan says, and it gave this value; None: memory ran out, and the first few steps of the plan
-- are done, each whole, and no grant is left open. All that was signed and posted was so under a grant.
pub record Ran {K X : Type 0} (leads : K → List (DeskCall × DeskReply) → K → Type 0) (plan : DutyPlan X) (before now : Seat K) (value : Option X) : Type 0 where
  pub steps : List DutyStep
  pub follows : Follows Fits plan steps value
  pub desk : leads before.desk (desk_calls steps) now.desk
  pub signer : SignerTells before.signer now.signer (told_in steps) (has_failed steps) (has_denied steps)
  pub nodes : NodesTell before.nodes now.nodes (node_told steps) (node_failed steps)
  pub posts : PostsGuarded steps
  pub signs : SignsGuarded steps
  pub granted : PostedGranted steps
