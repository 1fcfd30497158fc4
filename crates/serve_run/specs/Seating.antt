-- Passes of a desk that is shared, what several of them made of it, and what lanes have beside them.
use Rattle.std.specs.Prelude.{◌≡◌, ◌+◌, ℕ, List, [], ◌∷◌, length, slice_get, slice_index_or, Option, Some, Result}
use Rattle.desk_lock.specs.Passes.{IsNew, made, number}
use Rattle.desk_machine.specs.declared.call.DeskCall.{DeskCall}
use Rattle.desk_machine.specs.declared.call.DeskReply.{DeskReply}
use Rattle.desk_seat.specs.Seats.{DeskPass, IsDeskPass, SharedDesk}
use Rattle.duty_plans.specs.declared.setup.DutySetup.{DutySetup}
use Rattle.duty_turns.specs.declared.held.DutyEnd.{DutyEnd}
use Rattle.keymanager_api.specs.Serving.{LinkSeen}
use Rattle.keymanager_api.specs.declared.connections.ConnectionsEnd.{ConnectionsEnd}
use Rattle.duty_workers.specs.declared.lane.Lane.{Lane}
use Rattle.serve_run.specs.Views.{Calls}
use Rattle.serve_run.specs.Clients.{Parts}
use Rattle.serve_run.specs.Serving.{Beside, Wanted}
use Rattle.serve_run.specs.declared.lanes.LaneEnd.{LaneEnd}

-- the signing service and the nodes of a lane
abbrev pub lane_end : {K S N : Type 0} → Lane K S N → LaneEnd S N
lane_end lane = record { signer = lane.signer; nodes = lane.nodes }

module _ {D : Type 0} (moment : D → ℕ) (leaves : D → ℕ → List ℕ → Type 0) (faults : D → ℕ) where
  -- passes that have made no call, in the order of their numbers, from this one on
  abbrev pub AreNew : SharedDesk D → ℕ → List (DeskPass D) → Type 0
  AreNew shared first passes = (k : ℕ) (p : DeskPass D) → slice_get passes k ≡ Some p → IsDeskPass moment leaves faults shared p × IsNew (first + k) p

  -- passes in the order of their numbers, each of which has made the calls at its place
  pub record HaveMade (shared : SharedDesk D) (calls : List (List (DeskCall × DeskReply))) (passes : List (DeskPass D)) : Type 0 where
    pub count : length passes ≡ length calls
    pub each : (k : ℕ) (p : DeskPass D) → slice_get passes k ≡ Some p → IsDeskPass moment leaves faults shared p × (number p ≡ k) × (made p ≡ slice_index_or calls k [])

  -- beside each other both loops ran over a shared desk, whose passes made these calls
  pub record RanBeside {C : Type 0} (shared : SharedDesk D) (see : C → LinkSeen) (clock : Option ℕ) (setup : DutySetup) (wanted : Wanted) (before now : Parts C)
      (duties : Result (Unit {0}) DutyEnd) (connections : Result (Unit {0}) ConnectionsEnd) (passes : List (DeskPass D)) : Type 0 where
    pub loop : Calls
    pub answered : Calls
    pub lanes : List Calls
    pub beside : Beside see clock setup wanted before now loop answered lanes duties connections now.out
    pub made_are : HaveMade shared (loop ∷ answered ∷ lanes) passes
