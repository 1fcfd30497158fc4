-- Lanes as they are seen, and what was done in them.
use Rattle.std.specs.Prelude.{◌<◌, ℕ, Bool, List, length, map, Option, Result}
use Rattle.desk_machine.specs.declared.call.DeskCall.{DeskCall}
use Rattle.desk_machine.specs.declared.call.DeskReply.{DeskReply}
use Rattle.node_calls.specs.declared.answer.Answer.{Answer}
use Rattle.node_calls.specs.declared.answer.NodeFault.{NodeFault}
use Rattle.node_calls.specs.declared.told.NodeCall.{NodeCall}
use Rattle.signer_link.specs.declared.reply.Told.{Told}
use Rattle.duty_plans.specs.declared.ended.Ended.{Ended}
use Rattle.duty_plans.specs.declared.task.Task.{Task}
use Rattle.duty_plans.specs.declared.work.SlotWork.{SlotWork}
use Rattle.duty_plans.specs.Hands.{Free}
use Rattle.duty_plans.specs.Seats.{Seat, at_seat, nodes_seen}
use Rattle.duty_plans.specs.Steps.{DutyStep}
use Rattle.duty_turns.specs.Lanes.{AreRefreshed, DidShares, EachDoes, HasEach}
use Rattle.duty_workers.specs.declared.lane.Lane.{Lane}
use Rattle.client_calls.specs.Seats.{signer_seen}

-- a lane as it is seen: its desk, its signing service and its nodes, and no grant in hand
abbrev pub lane_seen : {K S N : Type 0} → (S → Option (List Told)) → (S → ℕ) → (S → ℕ) → (N → Option (List NodeCall)) → (N → ℕ) → Lane K S N → Seat K
lane_seen told faults denials node_told node_faults lane = at_seat lane.desk Free (signer_seen told faults denials lane.signer) (nodes_seen node_told node_faults lane.nodes)

abbrev pub lanes_seen : {K S N : Type 0} → (S → Option (List Told)) → (S → ℕ) → (S → ℕ) → (N → Option (List NodeCall)) → (N → ℕ) → List (Lane K S N) → List (Seat K)
lanes_seen told faults denials node_told node_faults lanes = map (lane_seen told faults denials node_told node_faults) lanes

-- its desk takes calls
abbrev pub IsReady : {K S N : Type 0} → (K → Type 0) → Lane K S N → Type 0
IsReady ready lane = ready lane.desk

-- these tasks, of which the first has this place, were done in the lanes, of which there is one at least, and ended so; None: memory
-- ran out in some lane
pub record WorksDone {K : Type 0} (leads : K → List (DeskCall × DeskReply) → K → Type 0) (work : SlotWork) (place : ℕ) (tasks : List Task) (before now : List (Seat K)) (ends : Option (List Ended)) : Type 0 where
  pub steps : List (List DutyStep)
  pub each : EachDoes leads before steps now
  pub shares : DidShares work place tasks ends (length steps) 0 steps
  pub has : HasEach tasks ends
  pub some : 0 < length steps

-- the nodes of the lanes were asked whether they are syncing
abbrev pub WereRefreshed : {K : Type 0} → Bool → List (Seat K) → List (Seat K) → Type 0
WereRefreshed whole before now = (replies : List (List (Result Answer NodeFault))) × AreRefreshed whole before replies now
