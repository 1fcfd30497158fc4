-- A validator client, as its parts are seen, and the calls of its desk that each of its threads made.
use Rattle.std.specs.Prelude.{ℕ, List, [], ◌∷◌, map, Option}
use Rattle.signer_link.specs.declared.reply.Told.{Told}
use Rattle.node_calls.specs.declared.told.NodeCall.{NodeCall}
use Rattle.client_calls.specs.Seats.{SignerSeen, signer_seen}
use Rattle.node_fallback.specs.Seen.{Seen}
use Rattle.node_fallback.specs.declared.nodes.Nodes.{Nodes}
use Rattle.duty_plans.specs.Hands.{Free}
use Rattle.duty_plans.specs.Seats.{Seat, at_seat, nodes_seen}
use Rattle.duty_turns.specs.TurnSteps.{House, SinkSeen}
use Rattle.duty_work.specs.Houses.{house}
use Rattle.keymanager_api.specs.Doors.{DoorSeen, Hall, door_seen, hall}
use Rattle.serve_run.specs.Views.{Calls}
use Rattle.journal_commands.specs.Views.{Output, output_of}
use Rattle.serve_run.specs.declared.lanes.LaneEnd.{LaneEnd}

-- a lane: its signing service and its beacon nodes
pub record LaneSeen : Type 0 where
  pub signer : SignerSeen
  pub nodes : List Seen

-- the parts of a client beside its desk: the signing service of its connections and their door, the beacon nodes of its duty loop, its
-- lanes, and the output
pub record Parts (C : Type 0) : Type 0 where
  pub signer : SignerSeen
  pub nodes : List Seen
  pub lanes : List LaneSeen
  pub door : DoorSeen C
  pub out : Output

-- a lane that made these calls
abbrev pub lane_seat : LaneSeen → Calls → Seat Calls
lane_seat lane calls = at_seat calls Free lane.signer lane.nodes

-- lanes that made these calls
abbrev pub lane_seats : List LaneSeen → List Calls → List (Seat Calls)
lane_seats [] calls = []
lane_seats (lane ∷ lanes) [] = []
lane_seats (lane ∷ lanes) (calls ∷ others) = lane_seat lane calls ∷ lane_seats lanes others

-- lanes that made none yet
abbrev pub idle_seats : List LaneSeen → List (Seat Calls)
idle_seats lanes = map (λ lane. lane_seat lane []) lanes

-- what an output holds, and how often it failed
abbrev pub sink_of : Output → SinkSeen
sink_of out = record { held = out.held; faults = out.failed }

-- what the duty loop has to do with, where it made these calls
abbrev pub house_of : {C : Type 0} → Calls → List (Seat Calls) → Parts C → Output → House Calls
house_of own lanes parts out = house own lanes parts.nodes (sink_of out)

-- what connections have to do with
abbrev pub hall_of : {C : Type 0} → Calls → Parts C → Hall Calls C
hall_of answered parts = hall answered parts.signer parts.door

-- what a lane's service and nodes tell
abbrev pub lane_end_seen : {S N : Type 0} → (S → Option (List Told)) → (S → ℕ) → (S → ℕ) → (N → Option (List NodeCall)) → (N → ℕ) → LaneEnd S N → LaneSeen
lane_end_seen told faults denials node_told node_faults lane = record { signer = signer_seen told faults denials lane.signer; nodes = nodes_seen node_told node_faults lane.nodes }

abbrev pub lane_ends_seen : {S N : Type 0} → (S → Option (List Told)) → (S → ℕ) → (S → ℕ) → (N → Option (List NodeCall)) → (N → ℕ) → List (LaneEnd S N) → List LaneSeen
lane_ends_seen told faults denials node_told node_faults lanes = map (lane_end_seen told faults denials node_told node_faults) lanes

-- the parts by what they tell
abbrev pub parts_seen : {S N R C O : Type 0} → (S → Option (List Told)) → (S → ℕ) → (S → ℕ) → (N → Option (List NodeCall)) → (N → ℕ) → (R → Option (List C)) → (R → Option (List C)) → (R → ℕ) → (O → Option (List ℕ)) → (O → ℕ)
    → S → Nodes N → List (LaneEnd S N) → R → O → Parts C
parts_seen told faults denials node_told node_faults coming finished door_faults held sink_faults signer nodes lanes door out = record {
  signer = signer_seen told faults denials signer;
  nodes = nodes_seen node_told node_faults nodes;
  lanes = lane_ends_seen told faults denials node_told node_faults lanes;
  door = door_seen coming finished door_faults door;
  out = output_of held sink_faults out;
}
