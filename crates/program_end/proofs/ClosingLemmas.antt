-- An output that was closed, by the status that came of it.
use Rattle.std.proofs.Common.{◌≡◌, ℕ, List, Option, sym, subst, inl, inr}
use Rattle.std.specs.Io.KnownBytes.{Appends}
use Rattle.program_end.specs.Closing.{TakesMemory, closing_status, closing_text}
use Rattle.program_end.specs.Endings.{Closes, EndsWith, WritesFront}
use Rattle.program_end.specs.declared.closing.ClosingLine.{ClosingLine}
use Rattle.program_end.specs.declared.status.Status.{Status}
use Rattle.program_end.specs.declared.status.Status.TheVariants as status

-- by the text and the status, or by the output
pub ended_by : (P : Status → Type 0) (st result : Status) (text : List ℕ) (held_before held_now : Option (List ℕ)) (failed_before failed_now : ℕ)
    → EndsWith st text held_before held_now failed_before failed_now result → (Appends held_before held_now text → P st)
    → (WritesFront text held_before held_now failed_before failed_now → P status.WriteFault) → P result
ended_by P st result text held_before held_now failed_before failed_now (inl c) whole part = subst P (sym c.0) (whole c.1)
ended_by P st result text held_before held_now failed_before failed_now (inr c) whole part = subst P (sym c.0) (part c.1)

-- by the line and its status, or by the output, or, where the line takes memory, for want of it
pub closed_by : (P : Status → Type 0) (line : ClosingLine) (result : Status) (held_before held_now : Option (List ℕ)) (failed_before failed_now : ℕ)
    → Closes line held_before held_now failed_before failed_now result → (Appends held_before held_now (closing_text line) → P (closing_status line))
    → (WritesFront (closing_text line) held_before held_now failed_before failed_now → P status.WriteFault)
    → (TakesMemory line → held_now ≡ held_before → failed_now ≡ failed_before → P status.OutOfMemory) → P result
closed_by P line result held_before held_now failed_before failed_now (inl c) whole part none =
    ended_by P (closing_status line) result (closing_text line) held_before held_now failed_before failed_now c whole part
closed_by P line result held_before held_now failed_before failed_now (inr c) whole part none = subst P (sym c.1.0) (none c.0 c.1.1 c.1.2)
