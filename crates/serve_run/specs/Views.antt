-- What a desk is seen as: the calls that one of its users made; and the objects of turns and connections with that in its place.
use Rattle.std.specs.Prelude.{◌≡◌, ◌++◌, ℕ, List, map, Option, Result}
use Rattle.desk_machine.specs.declared.call.DeskCall.{DeskCall}
use Rattle.desk_machine.specs.declared.call.DeskReply.{DeskReply}
use Rattle.client_calls.specs.Seats as client
use Rattle.duty_plans.specs.declared.setup.DutySetup.{DutySetup}
use Rattle.duty_plans.specs.Seats as duties
use Rattle.duty_turns.specs.declared.held.DutyEnd.{DutyEnd}
use Rattle.duty_turns.specs.TurnSteps.{House, TurnStep, in_house}
use Rattle.duty_work.specs.Houses.{RunsFrom}
use Rattle.keymanager_api.specs.Serving.{LinkSeen}
use Rattle.keymanager_api.specs.Doors.{Hall}
use Rattle.keymanager_api.specs.Visits.{ServesAll, Visit}
use Rattle.keymanager_api.specs.declared.connections.ConnectionsEnd.{ConnectionsEnd}

-- the calls of a desk that one of its users made, with their replies
abbrev pub Calls : Type 0
Calls = List (DeskCall × DeskReply)

-- they grew by these
abbrev pub Grew : Calls → Calls → Calls → Type 0
Grew before more now = now ≡ before ++ more

-- what a desk is seen as are calls that grow by those that lead from one desk to another
abbrev pub IsView : {K : Type 0} → (K → List (DeskCall × DeskReply) → K → Type 0) → (K → Calls) → Type 0
IsView {K} leads view = (a b : K) (made : Calls) → leads a made b → Grew (view a) made (view b)

abbrev pub seat_by : {K L : Type 0} → (K → L) → duties.Seat K → duties.Seat L
seat_by view seat = duties.at_seat (view seat.desk) seat.hand seat.signer seat.nodes

abbrev pub house_by : {K L : Type 0} → (K → L) → House K → House L
house_by view house = in_house (seat_by view house.seat) (map (seat_by view) house.lanes) house.out

abbrev pub caller_by : {K L : Type 0} → (K → L) → client.Seat K → client.Seat L
caller_by view seat = client.at_seat (view seat.desk) seat.signer

abbrev pub hall_by : {K L C : Type 0} → (K → L) → Hall K C → Hall L C
hall_by view hall = record { seat = caller_by view hall.seat; door = hall.door }

-- turns were carried out from just this moment on, by just these steps
pub record SeesSame (start : Option ℕ) (setup : DutySetup) (a b : House Calls) (value : Option (Result (Unit {0}) DutyEnd)) (now : ℕ) (steps : List TurnStep) : Type 0 where
  pub runs : RunsFrom Grew start setup a b value
  pub from : runs.now ≡ now
  pub same : runs.runs.steps ≡ steps

-- connections were served by just these visits
pub record VisitsSame {C : Type 0} (see : C → LinkSeen) (start : Option ℕ) (token : List ℕ) (genesis_time wanted : ℕ) (a b : Hall Calls C) (result : Result (Unit {0}) ConnectionsEnd) (visits : List (Visit C)) : Type 0 where
  pub serves : ServesAll Grew see start token genesis_time wanted a b result
  pub same : serves.visits ≡ visits
