-- What is done of duties in lanes: how it is dealt, and what all lanes do beside each other.
use Rattle.std.specs.Prelude.{◌≡◌, ℕ, ◌+◌, ◌%◌, ◌==◌, if◌then◌else◌, Bool, true, false, List, [], ◌∷◌, length, Option, Some, None, Result}
use Rattle.desk_machine.specs.declared.call.DeskCall.{DeskCall}
use Rattle.desk_machine.specs.declared.call.DeskReply.{DeskReply}
use Rattle.node_calls.specs.declared.answer.Answer.{Answer}
use Rattle.node_calls.specs.declared.answer.NodeFault.{NodeFault}
use Rattle.node_fallback.specs.Refreshing.{AreAskedFirst, AreFlagged}
use Rattle.node_fallback.specs.Seen.{Seen}
use Rattle.call_plans.specs.Plans.{Follows}
use Rattle.call_plans.specs.Paths.{Path}
use Rattle.duty_plans.specs.declared.ended.Ended.{Ended}
use Rattle.duty_plans.specs.declared.task.Task.{Task}
use Rattle.duty_plans.specs.declared.work.SlotWork.{SlotWork}
use Rattle.duty_plans.specs.Plans.{slot_plan}
use Rattle.duty_plans.specs.Steps.{DutyStep}
use Rattle.duty_plans.specs.Steps as duties
use Rattle.duty_plans.specs.Seats.{Seat}
use Rattle.duty_plans.specs.Seats as seats

-- Of a list whose places are counted from one on, what goes to a lane of so many, which are counted from 0: each place goes to the lane
-- that it is modulo the lanes.
abbrev pub dealt : {X : Type 0} → ℕ → ℕ → ℕ → List X → List X
dealt lanes lane place [] = []
dealt lanes lane place (x ∷ xs) = if place % lanes == lane then x ∷ dealt lanes lane (place + 1) xs else dealt lanes lane (place + 1) xs

-- A lane did its share of these tasks, of which the first has this place, and had the share of these ends. Where there are none, memory
-- ran out in some lane: then each did its share, or the first few steps of it.
abbrev pub DidShare : SlotWork → ℕ → List Task → Option (List Ended) → ℕ → ℕ → List DutyStep → Type 0
DidShare work place tasks (Some ends) lanes lane steps = Follows duties.Fits (slot_plan work (dealt lanes lane place tasks)) steps (Some (dealt lanes lane place ends))
DidShare work place tasks None lanes lane steps = (v : Option (List Ended)) × Follows duties.Fits (slot_plan work (dealt lanes lane place tasks)) steps v

-- so each lane did, from one on
abbrev pub DidShares : SlotWork → ℕ → List Task → Option (List Ended) → ℕ → ℕ → List (List DutyStep) → Type 0
DidShares work place tasks ends lanes lane [] = Unit {0}
DidShares work place tasks ends lanes lane (steps ∷ others) = DidShare work place tasks ends lanes lane steps × DidShares work place tasks ends lanes (lane + 1) others

-- each task has an end
abbrev pub HasEach : List Task → Option (List Ended) → Type 0
HasEach tasks None = Unit {0}
HasEach tasks (Some ends) = length ends ≡ length tasks

-- ---- the lanes, as they are seen: a desk, a signing service and nodes each, and no grant in hand

-- the steps of each led it from the one to the other
abbrev pub EachDoes : {K : Type 0} → (K → List (DeskCall × DeskReply) → K → Type 0) → List (Seat K) → List (List DutyStep) → List (Seat K) → Type 0
EachDoes leads [] [] [] = Unit {0}
EachDoes leads (a ∷ old) (steps ∷ others) (b ∷ new) = Path (seats.Does leads) a steps b × EachDoes leads old others new
EachDoes leads _ _ _ = ⊥

-- the seat with other flags and tellings of the nodes
abbrev pub with_nodes : {K : Type 0} → Seat K → List Seen → Seat K
with_nodes a nodes = seats.at_seat a.desk a.hand a.signer nodes

-- the nodes of a seat were asked whether they are syncing, all of them, or the first few
abbrev pub IsRefreshed : {K : Type 0} → Bool → Seat K → List (Result Answer NodeFault) → Seat K → Type 0
IsRefreshed true a replies b = (nodes : List Seen) × AreFlagged a.nodes replies nodes × (b ≡ with_nodes a nodes)
IsRefreshed false a replies b = (nodes : List Seen) × AreAskedFirst a.nodes replies nodes × (b ≡ with_nodes a nodes)

-- so those of each lane, in the order of the lanes: all of them; or all of the first few lanes, and the first few of the one after them,
-- and the others were not touched
abbrev pub AreRefreshed : {K : Type 0} → Bool → List (Seat K) → List (List (Result Answer NodeFault)) → List (Seat K) → Type 0
AreRefreshed true [] [] [] = Unit {0}
AreRefreshed true (a ∷ old) (replies ∷ others) (b ∷ new) = IsRefreshed true a replies b × AreRefreshed true old others new
AreRefreshed true _ _ _ = ⊥
AreRefreshed false (a ∷ old) (replies ∷ []) (b ∷ new) = IsRefreshed false a replies b × (new ≡ old)
AreRefreshed false (a ∷ old) (replies ∷ others) (b ∷ new) = IsRefreshed true a replies b × AreRefreshed false old others new
AreRefreshed false _ _ _ = ⊥
