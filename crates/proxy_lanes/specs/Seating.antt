-- Passes of a desk that lanes share.
use Rattle.std.specs.Prelude.{◌≡◌, ◌+◌, ℕ, List, [], length, map, slice_get, slice_index_or, Some, Result}
use Rattle.desk_lock.specs.Passes.{IsNew, made, number}
use Rattle.client_calls.specs.Seats.{SignerSeen}
use Rattle.desk_seat.specs.Seats.{DeskPass, IsDeskPass, SharedDesk}
use Rattle.door_lanes.specs.Doors.{DoorSeen}
use Rattle.door_lanes.specs.Runs.{Served}
use Rattle.door_lanes.specs.declared.lanes.LoopEnd.{LoopEnd}
use Rattle.keymanager_api.specs.Serving.{LinkSeen}
use Rattle.proxy_api.specs.Attending.{Terms}
use Rattle.proxy_lanes.specs.Lanes.{AttendsBy, Calls, LaneSeen, idle_lanes}

module _ {D : Type 0} (moment : D → ℕ) (leaves : D → ℕ → List ℕ → Type 0) (faults : D → ℕ) where
  -- passes that have made no call, in the order of their numbers, from this one on
  abbrev pub AreNew : SharedDesk D → ℕ → List (DeskPass D) → Type 0
  AreNew shared first passes = (k : ℕ) (p : DeskPass D) → slice_get passes k ≡ Some p → IsDeskPass moment leaves faults shared p × IsNew (first + k) p

  -- passes in the order of their numbers, each of which has made the calls at its place
  pub record HaveMade (shared : SharedDesk D) (calls : List Calls) (passes : List (DeskPass D)) : Type 0 where
    pub count : length passes ≡ length calls
    pub each : (k : ℕ) (p : DeskPass D) → slice_get passes k ≡ Some p → IsDeskPass moment leaves faults shared p × (number p ≡ k) × (made p ≡ slice_index_or calls k [])

  -- lanes in their seats served, and their passes made these calls
  pub record RanSeated {C : Type 0} (shared : SharedDesk D) (see : C → LinkSeen) (terms : Terms) (wanted : ℕ) (signers_before signers_now : List SignerSeen) (door_before door_now : DoorSeen C)
      (passes : List (DeskPass D)) (result : Result (Unit {0}) LoopEnd) : Type 0 where
    pub lanes : List LaneSeen
    pub served : Served (AttendsBy see terms) wanted door_before door_now (idle_lanes signers_before) lanes result
    pub signers : map (λ lane. lane.signer) lanes ≡ signers_now
    pub made_are : HaveMade shared (map (λ lane. lane.desk) lanes) passes
