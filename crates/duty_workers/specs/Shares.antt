-- What one lane does, and how the ends of all are put together.
use Rattle.std.specs.Prelude.{◌≡◌, ℕ, Bool, true, false, List, [], ◌∷◌, ◌++◌, length, Option, Some, Result, slice_get}
use Rattle.std.specs.Option.{option_and_then, option_map}
use Rattle.desk_machine.specs.declared.call.DeskCall.{DeskCall}
use Rattle.desk_machine.specs.declared.call.DeskReply.{DeskReply}
use Rattle.node_calls.specs.declared.answer.Answer.{Answer}
use Rattle.node_calls.specs.declared.answer.NodeFault.{NodeFault}
use Rattle.node_calls.specs.declared.told.NodeCall.{NodeCall}
use Rattle.signer_link.specs.declared.reply.Told.{Told}
use Rattle.call_plans.specs.Paths.{Carries}
use Rattle.duty_plans.specs.declared.ended.Ended.{Ended}
use Rattle.duty_plans.specs.declared.task.Task.{Task}
use Rattle.duty_plans.specs.declared.work.SlotWork.{SlotWork}
use Rattle.duty_plans.specs.Plans.{slot_plan}
use Rattle.duty_plans.specs.Seats.{Seat, Does}
use Rattle.duty_plans.specs.Steps.{Fits}
use Rattle.duty_turns.specs.Lanes.{IsRefreshed, dealt}
use Rattle.duty_workers.specs.declared.lane.Lane.{Lane}
use Rattle.duty_workers.specs.Working.{lane_seen}

-- how the tasks that a lane did last ended; None: memory ran out
abbrev pub lane_ends : {K S N : Type 0} → Lane K S N → Option (List Ended)
lane_ends lane = option_map (λ ends. ends.items) lane.ends

-- the end at this place among those
abbrev pub end_at : Option (List Ended) → ℕ → Option Ended
end_at ends place = option_and_then (λ es. slice_get es place) ends

-- these, and one more where it is to be kept
abbrev pub kept : {X : Type 0} → Bool → List X → X → List X
kept true xs x = xs ++ x ∷ []
kept false xs x = xs

-- Of these tasks, of which the first has this place, a lane of so many did its share, and says how they ended. None: memory ran out, and
-- it did the first few steps of it.
abbrev pub DidLane : {K S N : Type 0} → (K → List (DeskCall × DeskReply) → K → Type 0) → (S → Option (List Told)) → (S → ℕ) → (S → ℕ) → (N → Option (List NodeCall)) → (N → ℕ)
    → SlotWork → ℕ → List Task → ℕ → ℕ → Lane K S N → Lane K S N → Type 0
DidLane leads told faults denials node_told node_faults work place tasks lanes lane before now = Carries Fits (Does leads) (slot_plan work (dealt lanes lane place tasks))
    (lane_seen told faults denials node_told node_faults before) (lane_seen told faults denials node_told node_faults now) (lane_ends now)

-- each lane that says how its tasks ended says so of as many as went to it
abbrev pub HaveShares : {K S N : Type 0} → ℕ → List Task → List (Lane K S N) → Type 0
HaveShares {K} {S} {N} place tasks lanes = (k : ℕ) (lane : Lane K S N) (ends : List Ended) → slice_get lanes k ≡ Some lane → lane_ends lane ≡ Some ends
    → length ends ≡ length (dealt (length lanes) k place tasks)

-- so the tasks ended: the ends that each lane says are those of its share
pub record AreGathered {K S N : Type 0} (place : ℕ) (tasks : List Task) (lanes : List (Lane K S N)) (ends : List Ended) : Type 0 where
  pub each : length ends ≡ length tasks
  pub shares : (k : ℕ) (lane : Lane K S N) → slice_get lanes k ≡ Some lane → lane_ends lane ≡ Some (dealt (length lanes) k place ends)

-- the nodes of a seat were asked whether they are syncing
abbrev pub IsRefreshedIn : {K : Type 0} → Bool → Seat K → Seat K → Type 0
IsRefreshedIn whole before now = (replies : List (Result Answer NodeFault)) × IsRefreshed whole before replies now
