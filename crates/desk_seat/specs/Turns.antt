-- What a legal history of the desk is, without the passes' numbers.
use Rattle.std.specs.Prelude.{◌≡◌, ◌≤◌, ℕ, List, [], ◌∷◌, length, slice_get, Some}
use Rattle.desk_lock.specs.declared.types.Entry.{Entry}
use Rattle.desk_lock.specs.Histories.{own, Legal, StartsWith}
use Rattle.desk_lock.specs.Passes.{made, seen}
use Rattle.desk_machine.specs.Given.{MayMake}
use Rattle.desk_machine.specs.declared.call.DeskCall.{DeskCall}
use Rattle.desk_machine.specs.declared.call.DeskReply.{DeskReply}
use Rattle.check_sign.specs.Contents.{Seen}
use Rattle.check_sign.specs.Paths.{Path}
use Rattle.desk_seat.specs.Seats.{DeskPass}
use Rattle.desk_seat.specs.Steps.{DeskStep}

-- the calls of a history with their replies
abbrev pub calls_of : List (Entry DeskCall DeskReply) → List (DeskCall × DeskReply)
calls_of [] = []
calls_of (e ∷ es) = (e.call, e.reply) ∷ calls_of es

-- One history led from the one desk to the other. In it each pass settled only what it was given and had not settled; it has the calls
-- of each pass and no others, and begins with what each has seen; and one after another they are calls of the desk.
pub record Served {D : Type 0} (moment : D → ℕ) (leaves : D → ℕ → List ℕ → Type 0) (faults : D → ℕ) (opened : Seen D) (passes : List (DeskPass D)) (closed : Seen D) : Type 0 where
  pub log : List (Entry DeskCall DeskReply)
  pub history : Legal (DeskStep moment leaves faults) MayMake [] opened log closed
  pub own_is : (k : ℕ) (p : DeskPass D) → slice_get passes k ≡ Some p → own k log ≡ made p
  pub no_others : (k : ℕ) → length passes ≤ k → own k log ≡ []
  pub starts : (k : ℕ) (p : DeskPass D) → slice_get passes k ≡ Some p → StartsWith log (seen p)
  pub path : Path moment leaves faults opened (calls_of log) closed
