-- What is done with a connection that the door gave.
use Rattle.std.specs.Prelude.{◌≡◌, ℕ, Bool, List, [], ◌∷◌, Option}
use Rattle.edge_kit.specs.Links.{Stays}
use Rattle.edge_kit.specs.Tellings.{Tells}
use Rattle.edge_clock.specs.Clocks.{IsNow}
use Rattle.desk_machine.specs.declared.call.DeskCall.{DeskCall}
use Rattle.desk_machine.specs.declared.call.DeskReply.{DeskReply}
use Rattle.client_calls.specs.Seats.{Seat}
use Rattle.duty_turns.specs.Times.{epoch_of, slot_of}
use Rattle.keymanager_api.specs.Serving.{LinkSeen, Serves}
use Rattle.keymanager_api.specs.declared.serve.Served.{Served}
use Rattle.keymanager_api.specs.Doors.{Hall}
use Rattle.keymanager_api.specs.Visits.{asks_failed}

-- Its request had the reply, at the epoch of the moment that the clock showed; the door took it back; and then the desk was asked
-- whether its disk failed.
pub record Handles {K C : Type 0} (leads : K → List (DeskCall × DeskReply) → K → Type 0) (see : C → LinkSeen) (start : Option ℕ) (token : List ℕ) (genesis_time : ℕ) (accepted : C) (before now : Hall K C) (failed : Bool) : Type 0 where
  pub moment : ℕ
  pub shown : IsNow start moment
  pub finished : C
  pub served : Served
  pub answered : Seat K
  pub serves : Serves leads token (epoch_of (slot_of genesis_time moment)) (see accepted) (see finished) before.seat answered served
  pub takes_back : Tells before.door.finished now.door.finished (finished ∷ [])
  pub coming : Stays before.door.coming now.door.coming
  pub faults : now.door.faults ≡ before.door.faults
  pub asked : leads answered.desk (asks_failed failed) now.seat.desk
  pub signer : now.seat.signer ≡ answered.signer
