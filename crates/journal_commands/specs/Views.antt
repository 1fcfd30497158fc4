-- What the input and the output of a command tell, and how often each of them failed.
use Rattle.std.specs.Prelude.{ℕ, List, Option, Some, None}
use Rattle.program_end.specs.Endings.{Closes, EndsWith, IsUnwritten}
use Rattle.program_end.specs.declared.closing.ClosingLine.{ClosingLine}
use Rattle.program_end.specs.declared.status.Status.{Status}

-- the bytes that the output holds, as far as it tells, and its count of faults
pub record Output : Type 0 where
  pub held : Option (List ℕ)
  pub failed : ℕ

-- the bytes that are left of the input, as far as it tells, its count of faults, and the output
pub record View : Type 0 where
  pub left : Option (List ℕ)
  pub failed : ℕ
  pub out : Output

abbrev pub output_of : {O : Type 0} → (O → Option (List ℕ)) → (O → ℕ) → O → Output
output_of held faults out = record { held = held out; failed = faults out }

abbrev pub view_of : {I O : Type 0} → (I → Option (List ℕ)) → (I → ℕ) → (O → Option (List ℕ)) → (O → ℕ) → I → O → View
view_of left failed held faults input out = record { left = left input; failed = failed input; out = output_of held faults out }

-- memory ran out, and nothing was written
abbrev pub Unwritten : Output → Output → Status → Type 0
Unwritten before now result = IsUnwritten before.held now.held before.failed now.failed result

-- the text was written, or a front of it where the output failed
abbrev pub EndsBy : Status → List ℕ → Output → Output → Status → Type 0
EndsBy status text before now result = EndsWith status text before.held now.held before.failed now.failed result

-- the line closed the output; where there is none, memory ran out
abbrev pub ClosedBy : Option ClosingLine → Output → Output → Status → Type 0
ClosedBy None before now result = Unwritten before now result
ClosedBy (Some line) before now result = Closes line before.held now.held before.failed now.failed result
