-- What steps make of the nodes.
use Rattle.std.proofs.Common.{◌≡◌, ℕ, zero, suc, ◌≤◌, Bool, true, false, List, [], ◌∷◌, ◌++◌, Option, Some, None, Result, Ok, Err, refl, sym, ◌∙◌, subst, arith}
use Rattle.std.specs.Prelude.{◌||◌}
use Rattle.edge_kit.specs.Causes.{Rose}
use Rattle.edge_kit.proofs.TellingLemmas.{Tells-nil, Tells-trans}
use Rattle.node_calls.specs.Asking.{posted, told_ask, told_post}
use Rattle.node_calls.specs.declared.answer.NodeFault.{NodeFault}
use Rattle.node_calls.specs.declared.answer.NodeFault.TheVariants as fault
use Rattle.node_calls.specs.declared.told.NodeCall.{NodeCall}
use Rattle.node_fallback.specs.InOrder.{AreTried, IsTried, told_turn}
use Rattle.node_fallback.specs.Seen.{Seen}
use Rattle.duty_plans.specs.Steps.{DutyStep, Tried, Calls, Signs, Reveals, Asks, Posts, Replies, Signed, Answered, Taken, told_at, told_of, failed_at, failed_of, is_fault, step_node, step_node_failed}
use Rattle.duty_plans.specs.Seats.{AreTriedIn, NodesDo, NodeTells, NodesTell}

not_true : {P : Type 0} → false ≡ true → P
not_true e = absurd cc

node_none : (n : Seen) → NodeTells n n [] false
node_none n = record { syncing = refl; tells = Tells-nil n.told; later = omega arith; fault = not_true }

pub nodes_none : (ns : List Seen) → NodesTell ns ns (λ place. []) (λ place. false)
nodes_none [] = tt
nodes_none (n ∷ ns) = (node_none n, nodes_none ns)

faults_on : (f g : Bool) (a b c : ℕ) → a ≤ b → b ≤ c → (f ≡ true → Rose a b) → (g ≡ true → Rose b c) → (f || g) ≡ true → Rose a c
faults_on true g a b c l m p q e = let r : Rose a b = p refl in omega arith
faults_on false g a b c l m p q e = let r : Rose b c = q e in omega arith

node_on : (a b c : Seen) (xs ys : List NodeCall) (f g : Bool) → NodeTells a b xs f → NodeTells b c ys g → NodeTells a c (xs ++ ys) (f || g)
node_on a b c xs ys f g p q = record {
  syncing = q.syncing ∙ p.syncing;
  tells = Tells-trans a.told b.told c.told xs ys p.tells q.tells;
  later = (let l : a.faults ≤ b.faults = p.later in let m : b.faults ≤ c.faults = q.later in omega arith);
  fault = faults_on f g a.faults b.faults c.faults p.later q.later p.fault q.fault;
}

pub nodes_on : (a b c : List Seen) (f g : ℕ → List NodeCall) (p q : ℕ → Bool) → NodesTell a b f p → NodesTell b c g q → NodesTell a c (λ place. f place ++ g place) (λ place. p place || q place)
nodes_on [] [] [] f g p q s t = tt
nodes_on [] [] (z ∷ c) f g p q s t = absurd t
nodes_on [] (y ∷ b) c f g p q s t = absurd s
nodes_on (x ∷ a) [] c f g p q s t = absurd s
nodes_on (x ∷ a) (y ∷ b) [] f g p q s t = absurd t
nodes_on (x ∷ a) (y ∷ b) (z ∷ c) f g p q s t =
    (node_on x y z (f zero) (g zero) (p zero) (q zero) s.0 t.0, nodes_on a b c (λ k. f (suc k)) (λ k. g (suc k)) (λ k. p (suc k)) (λ k. q (suc k)) s.1 t.1)

turn_fault : {A : Type 0} (r : Option (Result A NodeFault)) (a b : ℕ) → (r ≡ Some (Err fault.Fault) → Rose a b) → is_fault r ≡ true → Rose a b
turn_fault None a b h e = not_true e
turn_fault (Some (Ok value)) a b h e = not_true e
turn_fault (Some (Err fault.Fault)) a b h e = h refl
turn_fault (Some (Err (fault.Status status))) a b h e = not_true e
turn_fault (Some (Err (fault.Unreadable body))) a b h e = not_true e
turn_fault (Some (Err fault.OutOfMemory)) a b h e = not_true e

turn_tells : {A : Type 0} (told : Result A NodeFault → List NodeCall) (o n : Seen) (r : Option (Result A NodeFault)) → IsTried told o r n → NodeTells o n (told_turn told r) (is_fault r)
turn_tells told o n r t = record { syncing = t.syncing; tells = t.tells; later = t.later; fault = turn_fault r o.faults n.faults t.fault }

tried_tell : {A : Type 0} (told : Result A NodeFault → List NodeCall) (old new : List Seen) (rs : List (Option (Result A NodeFault))) → AreTried told old rs new → NodesTell old new (told_at told rs) (failed_at rs)
tried_tell told old new [] e = subst (λ (l : List Seen). NodesTell old l (λ place. []) (λ place. false)) (sym e) (nodes_none old)
tried_tell told [] new (r ∷ rs) t = absurd t
tried_tell told (o ∷ old) [] (r ∷ rs) t = absurd t
tried_tell told (o ∷ old) (n ∷ new) (r ∷ rs) t = (turn_tells told o n r t.0, tried_tell told old new rs t.1)

same_tell : (old new : List Seen) → new ≡ old → NodesTell old new (λ place. []) (λ place. false)
same_tell old new e = subst (λ (l : List Seen). NodesTell old l (λ place. []) (λ place. false)) (sym e) (nodes_none old)

tried_in : {A : Type 0} (told : Result A NodeFault → List NodeCall) (old new : List Seen) (tried : Tried A) → AreTriedIn told old tried new → NodesTell old new (told_of told tried) (failed_of tried)
tried_in told old new None e = same_tell old new e
tried_in told old new (Some rs) t = tried_tell told old new rs t.0

-- a step's nodes tell of it
pub nodes_do : (old new : List Seen) (s : DutyStep) → NodesDo old s new → NodesTell old new (λ place. step_node place s) (λ place. step_node_failed place s)
nodes_do old new (Asks a, Answered tried) t = tried_in (told_ask a) old new tried t
nodes_do old new (Asks a, Replies r) e = same_tell old new e
nodes_do old new (Asks a, Signed r) e = same_tell old new e
nodes_do old new (Asks a, Taken tried) e = same_tell old new e
nodes_do old new (Posts grant p, Taken tried) t = tried_in (told_post (posted grant.key grant.message p)) old new tried t
nodes_do old new (Posts grant p, Replies r) e = same_tell old new e
nodes_do old new (Posts grant p, Signed r) e = same_tell old new e
nodes_do old new (Posts grant p, Answered tried) e = same_tell old new e
nodes_do old new (Calls c, r) e = same_tell old new e
nodes_do old new (Signs grant q, r) e = same_tell old new e
nodes_do old new (Reveals grant q, r) e = same_tell old new e
