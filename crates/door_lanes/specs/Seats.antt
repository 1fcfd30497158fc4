-- Seats at a shared door.
use Rattle.std.specs.Prelude.{◌≡◌, ℕ, List, ◌++◌, Option}
use Rattle.atomic_table.specs.declared.shared.Seat.{Seat}
use Rattle.desk_lock.specs.declared.types.Held.{Held}
use Rattle.desk_lock.specs.declared.types.View.{View}
use Rattle.desk_lock.specs.Passes.{made, number}
use Rattle.desk_lock.specs.Sharing.{Shared, IsPassAt}
use Rattle.door_lanes.specs.declared.counted.Taken.{Taken}
use Rattle.door_lanes.specs.Doors.{Asked, CountedSeen, HandsOn, MayAsk, TakeStep}

-- a door that is shared, and a pass on it
abbrev pub SharedDoor : Type 0 → Type 0
SharedDoor C = Shared (CountedSeen C) (Option C) (Taken C)

abbrev pub DoorPass : Type 0 → Type 0
DoorPass C = Seat (Held (CountedSeen C) (Option C) (Taken C)) (View (CountedSeen C) (Option C) (Taken C))

-- its pass: what it has seen is a history of steps of the door
abbrev pub IsDoorPass : {C : Type 0} → SharedDoor C → DoorPass C → Type 0
IsDoorPass s p = IsPassAt TakeStep MayAsk s p

-- its pass, which hands back with each turn what the turn before gave it; the number is that of connections not handed back yet
abbrev pub IsUsedPass : {C : Type 0} → SharedDoor C → DoorPass C → ℕ → Type 0
IsUsedPass s p n = IsDoorPass s p × HandsOn 0 (made p) n

-- the pass's own calls grew by these
pub record Grows {C : Type 0} (p : DoorPass C) (xs : List (Asked C)) (q : DoorPass C) : Type 0 where
  pub number_is : number q ≡ number p
  pub made_is : made q ≡ made p ++ xs
