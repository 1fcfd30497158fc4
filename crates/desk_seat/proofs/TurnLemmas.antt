-- A legal history of a shared desk.
use Rattle.std.specs.Prelude.{ℕ, List, [], ◌∷◌, ◌++◌}
use Rattle.desk_lock.specs.declared.types.Entry.{Entry}
use Rattle.desk_lock.specs.Histories.{Legal}
use Rattle.desk_lock.specs.Passes.{Closes}
use Rattle.desk_machine.specs.Given.{MayMake}
use Rattle.desk_machine.specs.declared.call.DeskCall.{DeskCall}
use Rattle.desk_machine.specs.declared.call.DeskReply.{DeskReply}
use Rattle.check_sign.specs.Contents.{Seen}
use Rattle.check_sign.specs.Paths.{Path}
use Rattle.desk_seat.specs.Seats.{DeskPass}
use Rattle.desk_seat.specs.Steps.{DeskStep}
use Rattle.desk_seat.specs.Turns.{Served, calls_of}

module _ {D : Type 0} (moment : D → ℕ) (leaves : D → ℕ → List ℕ → Type 0) (faults : D → ℕ) where
  history_path : (before : List (Entry DeskCall DeskReply)) (s : Seen D) (log : List (Entry DeskCall DeskReply)) (t : Seen D) → Legal (DeskStep moment leaves faults) MayMake before s log t → Path moment leaves faults s (calls_of log) t
  history_path before s [] t l = l
  history_path before s (e ∷ es) t l = (l.0, l.2, history_path (before ++ e ∷ []) l.0 es t l.3)

  pub served : (opened : Seen D) (passes : List (DeskPass D)) (closed : Seen D) → Closes (DeskStep moment leaves faults) MayMake opened passes closed → Served moment leaves faults opened passes closed
  served opened passes closed c = record {
    log = c.log;
    history = c.legal;
    own_is = c.own_is;
    no_others = c.no_others;
    starts = c.starts;
    path = history_path [] opened c.log closed c.legal;
  }
