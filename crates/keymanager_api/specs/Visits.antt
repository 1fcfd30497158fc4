-- Connections that are served, one after another.
use Rattle.std.specs.Prelude.{◌≡◌, ◌⊎◌, ◌≤◌, ◌<◌, ℕ, Bool, true, false, List, [], ◌∷◌, ◌++◌, All, flat_map, length, Option, Some, None, Result, Ok, Err}
use Rattle.edge_kit.specs.Causes.{Rose}
use Rattle.edge_kit.specs.Doors.{Accepts}
use Rattle.edge_kit.specs.Links.{Stays}
use Rattle.edge_kit.specs.Tellings.{Tells}
use Rattle.edge_clock.specs.Clocks.{IsNow}
use Rattle.call_plans.specs.Paths.{Path}
use Rattle.desk_machine.specs.declared.call.DeskCall.{DeskCall}
use Rattle.desk_machine.specs.declared.call.DeskCall.TheVariants as call
use Rattle.desk_machine.specs.declared.call.DeskReply.{DeskReply}
use Rattle.desk_machine.specs.declared.call.DeskReply.TheVariants as reply
use Rattle.client_calls.specs.Seats.{Seat}
use Rattle.client_calls.specs.Steps.{desk_calls}
use Rattle.duty_turns.specs.Times.{epoch_of, slot_of}
use Rattle.keymanager_api.specs.Serving.{LinkSeen, Serves}
use Rattle.keymanager_api.specs.declared.serve.Served.{Served}
use Rattle.keymanager_api.specs.Doors.{Hall}
use Rattle.keymanager_api.specs.declared.connections.ConnectionsEnd.{ConnectionsEnd}
use Rattle.keymanager_api.specs.declared.connections.ConnectionsEnd.TheVariants as end

-- A connection that was served: as it was accepted and as it was finished, the moment that the clock showed, what became of it, what
-- the desk said then of its disk, and all that the desk was called for.
pub record Visit (C : Type 0) : Type 0 where
  pub accepted : C
  pub finished : C
  pub moment : ℕ
  pub served : Served
  pub failed : Bool
  pub made : List (DeskCall × DeskReply)

-- what a desk is asked once a turn
abbrev pub asks_failed : Bool → List (DeskCall × DeskReply)
asks_failed failed = (call.HasFailed, reply.HasFailed failed) ∷ []

-- The door gave the connection and took it back. In between its request had the reply, at the epoch of the moment, of what the desk and
-- the signer did for it, and the desk was asked whether its disk failed.
pub record Visits {K C : Type 0} (leads : K → List (DeskCall × DeskReply) → K → Type 0) (see : C → LinkSeen) (start : Option ℕ) (token : List ℕ) (genesis_time : ℕ) (before : Hall K C) (v : Visit C) (now : Hall K C) : Type 0 where
  pub shown : IsNow start v.moment
  pub gives : Accepts before.door.coming now.door.coming (Some v.accepted)
  pub takes_back : Tells before.door.finished now.door.finished (v.finished ∷ [])
  pub later : before.door.faults ≤ now.door.faults
  pub answered : Seat K
  pub serves : Serves leads token (epoch_of (slot_of genesis_time v.moment)) (see v.accepted) (see v.finished) before.seat answered v.served
  pub asked : leads answered.desk (asks_failed v.failed) now.seat.desk
  pub signer : now.seat.signer ≡ answered.signer
  pub made_are : v.made ≡ desk_calls serves.ran.steps ++ asks_failed v.failed

-- no disk has failed, by what the desk said after each
abbrev pub AllUp : {C : Type 0} → List (Visit C) → Type 0
AllUp visits = All (λ v. v.failed ≡ false) visits

-- no disk has failed but at the last
pub record FailedAtLast {C : Type 0} (visits : List (Visit C)) : Type 0 where
  pub front : List (Visit C)
  pub last : Visit C
  pub are : visits ≡ front ++ last ∷ []
  pub up : AllUp front
  pub failed : last.failed ≡ true

-- the door was asked for a connection and gave none: desk and signer stay, and none was taken back
pub record GivesNone {K C : Type 0} (before now : Hall K C) : Type 0 where
  pub none : Accepts before.door.coming now.door.coming None
  pub finished : Stays before.door.finished now.door.finished
  pub later : before.door.faults ≤ now.door.faults
  pub seat : now.seat ≡ before.seat

-- the door was asked for a connection and failed: its count of faults rose
pub record DoorFailed {K C : Type 0} (before now : Hall K C) : Type 0 where
  pub rose : Rose before.door.faults now.door.faults
  pub coming : Stays before.door.coming now.door.coming
  pub finished : Stays before.door.finished now.door.finished
  pub seat : now.seat ≡ before.seat

-- Why no further connection is served: as many were finished as were wanted, or none came any more; the door failed; or the desk said
-- that its disk failed.
abbrev pub EndsAt : {K C : Type 0} → ℕ → List (Visit C) → Hall K C → Hall K C → Result (Unit {0}) ConnectionsEnd → Type 0
EndsAt wanted visits last now (Ok done) = AllUp visits × (((length visits ≡ wanted) × (now ≡ last)) ⊎ ((length visits < wanted) × GivesNone last now))
EndsAt wanted visits last now (Err end.Door) = AllUp visits × (length visits < wanted) × DoorFailed last now
EndsAt wanted visits last now (Err end.Disk) = FailedAtLast visits × (length visits ≤ wanted) × (now ≡ last)

-- the calls of the desk in these visits, in order
abbrev pub calls_in : {C : Type 0} → List (Visit C) → List (DeskCall × DeskReply)
calls_in visits = flat_map (λ v. v.made) visits

-- Connections were served, one after another, up to why there is no further one.
pub record ServesAll {K C : Type 0} (leads : K → List (DeskCall × DeskReply) → K → Type 0) (see : C → LinkSeen) (start : Option ℕ) (token : List ℕ) (genesis_time wanted : ℕ) (before now : Hall K C) (result : Result (Unit {0}) ConnectionsEnd) : Type 0 where
  pub visits : List (Visit C)
  pub last : Hall K C
  pub path : Path (Visits leads see start token genesis_time) before visits last
  pub ends : EndsAt wanted visits last now result
  pub desk : leads before.seat.desk (calls_in visits) now.seat.desk
