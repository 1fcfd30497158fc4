-- Seats at a shared desk.
use Rattle.std.specs.Prelude.{◌≡◌, ℕ, List, ◌++◌}
use Rattle.atomic_table.specs.declared.shared.Seat.{Seat}
use Rattle.desk_lock.specs.declared.types.Held.{Held}
use Rattle.desk_lock.specs.declared.types.View.{View}
use Rattle.desk_lock.specs.Histories.{StartsWith}
use Rattle.desk_lock.specs.Passes.{made, seen, number}
use Rattle.desk_lock.specs.Sharing.{Shared, IsPassAt}
use Rattle.desk_machine.specs.Given.{MayMake}
use Rattle.desk_machine.specs.declared.call.DeskCall.{DeskCall}
use Rattle.desk_machine.specs.declared.call.DeskReply.{DeskReply}
use Rattle.check_sign.specs.Contents.{Seen}
use Rattle.desk_seat.specs.Steps.{DeskStep}

-- a desk that is shared, and a pass on it
abbrev pub SharedDesk : Type 0 → Type 0
SharedDesk D = Shared (Seen D) DeskCall DeskReply

abbrev pub DeskPass : Type 0 → Type 0
DeskPass D = Seat (Held (Seen D) DeskCall DeskReply) (View (Seen D) DeskCall DeskReply)

-- Its pass: what it has seen is a history of steps of the desk, in which each pass settles only what it was given and has not settled,
-- and holds of its own calls just those that it made.
abbrev pub IsDeskPass : {D : Type 0} → (D → ℕ) → (D → ℕ → List ℕ → Type 0) → (D → ℕ) → SharedDesk D → DeskPass D → Type 0
IsDeskPass moment leaves faults s p = IsPassAt (DeskStep moment leaves faults) MayMake s p

-- the pass's own calls grew by these, in a history that grew
pub record Grows {D : Type 0} (p : DeskPass D) (xs : List (DeskCall × DeskReply)) (q : DeskPass D) : Type 0 where
  pub number_is : number q ≡ number p
  pub made_is : made q ≡ made p ++ xs
  pub starts : StartsWith (seen q) (seen p)
