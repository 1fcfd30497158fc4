-- Lanes of the signing proxy at one door, over one desk.
use Rattle.std.specs.Prelude.{◌≡◌, ◌++◌, ℕ, Bool, List, [], map, slice_index_or, Option, Result}
use Rattle.desk_machine.specs.Given.{MayMake}
use Rattle.desk_machine.specs.declared.call.DeskCall.{DeskCall}
use Rattle.desk_machine.specs.declared.call.DeskReply.{DeskReply}
use Rattle.desk_lock.specs.Histories.{Legal, own}
use Rattle.signer_link.specs.declared.reply.Told.{Told}
use Rattle.client_calls.specs.Seats.{Seat, SignerSeen, at_seat, signer_seen}
use Rattle.check_sign.specs.Contents.{Seen}
use Rattle.check_sign.specs.Paths.{Path}
use Rattle.desk_seat.specs.Spans.{History}
use Rattle.desk_seat.specs.Steps.{DeskStep}
use Rattle.desk_seat.specs.Turns.{calls_of}
use Rattle.door_lanes.specs.Doors.{DoorSeen}
use Rattle.door_lanes.specs.Runs.{Served}
use Rattle.door_lanes.specs.declared.lanes.LoopEnd.{LoopEnd}
use Rattle.keymanager_api.specs.Serving.{LinkSeen}
use Rattle.proxy_api.specs.Attending.{Attends, Terms}

-- the calls of the desk that a lane made, with their replies
abbrev pub Calls : Type 0
Calls = List (DeskCall × DeskReply)

-- they grew by these
abbrev pub Grew : Calls → Calls → Calls → Type 0
Grew before more now = now ≡ before ++ more

-- a lane: the calls that it made, and its signer as it is seen
abbrev pub LaneSeen : Type 0
LaneSeen = Seat Calls

abbrev pub signers_seen : {S : Type 0} → (S → Option (List Told)) → (S → ℕ) → (S → ℕ) → List S → List SignerSeen
signers_seen told faults denials signers = map (signer_seen told faults denials) signers

-- lanes that made no call yet
abbrev pub idle_lanes : List SignerSeen → List LaneSeen
idle_lanes signers = map (λ signer. at_seat [] signer) signers

-- a lane served a connection
abbrev pub AttendsBy : {C : Type 0} → (C → LinkSeen) → Terms → LaneSeen → C → C → Bool → LaneSeen → Type 0
AttendsBy see terms a accepted finished failed b = Attends Grew terms (see accepted) (see finished) a b failed

-- One history leads from the desk as it was lent to the desk in the end. In it each lane settled only grants that it was given and had not
-- settled. The calls of each lane are these, and there are no others; one after another they are calls of the desk.
pub record SharedLanes {D : Type 0} (moment : D → ℕ) (leaves : D → ℕ → List ℕ → Type 0) (faults : D → ℕ) (lent : Seen D) (lanes : List Calls) (back : Seen D) : Type 0 where
  pub log : History
  pub history : Legal (DeskStep moment leaves faults) MayMake [] lent log back
  pub own_is : (k : ℕ) → own k log ≡ slice_index_or lanes k []
  pub path : Path moment leaves faults lent (calls_of log) back

-- Lanes served the connections of a door, each with calls of its own to the one desk and with a signer of its own, in the order of the
-- signers; or memory was wanted before anything was done.
pub record ProxyRan {D C : Type 0} (moment : D → ℕ) (leaves : D → ℕ → List ℕ → Type 0) (faults : D → ℕ) (see : C → LinkSeen) (terms : Terms) (wanted : ℕ) (lent back : Seen D)
    (signers_before signers_now : List SignerSeen) (door_before door_now : DoorSeen C) (result : Result (Unit {0}) LoopEnd) : Type 0 where
  pub lanes : List LaneSeen
  pub served : Served (AttendsBy see terms) wanted door_before door_now (idle_lanes signers_before) lanes result
  pub signers : map (λ lane. lane.signer) lanes ≡ signers_now
  pub shared : SharedLanes moment leaves faults lent (map (λ lane. lane.desk) lanes) back
