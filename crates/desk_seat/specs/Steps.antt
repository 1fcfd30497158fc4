-- A call of the desk, as a step of a value that is shared.
use Rattle.std.specs.Prelude.{ℕ, List}
use Rattle.desk_machine.specs.declared.call.DeskCall.{DeskCall}
use Rattle.desk_machine.specs.declared.call.DeskReply.{DeskReply}
use Rattle.check_sign.specs.Contents.{Seen}
use Rattle.check_sign.specs.Calls.{IsCallOf}

abbrev pub DeskStep : {D : Type 0} → (D → ℕ) → (D → ℕ → List ℕ → Type 0) → (D → ℕ) → Seen D → DeskCall → DeskReply → Seen D → Type 0
DeskStep moment leaves faults old c r new = IsCallOf moment leaves faults old new c r
