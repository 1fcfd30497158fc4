-- What closes an output.
use Rattle.std.specs.Prelude.{◌≡◌, ℕ, ◌<◌, ◌⊎◌, List, Option, length, take}
use Rattle.std.specs.Io.KnownBytes.{Appends}
use Rattle.edge_kit.specs.Causes.{Rose}
use Rattle.program_end.specs.Closing.{TakesMemory, closing_status, closing_text}
use Rattle.program_end.specs.declared.closing.ClosingLine.{ClosingLine}
use Rattle.program_end.specs.declared.status.Status.{Status}
use Rattle.program_end.specs.declared.status.Status.TheVariants.{OutOfMemory, WriteFault}

-- the output failed within a text, and holds a front of it
pub record WritesFront (text : List ℕ) (held_before held_now : Option (List ℕ)) (failed_before failed_now : ℕ) : Type 0 where
  pub rose : Rose failed_before failed_now
  pub count : ℕ
  pub within : count < length text
  pub front : Appends held_before held_now (take count text)

-- memory ran out, and nothing was written
abbrev pub IsUnwritten : Option (List ℕ) → Option (List ℕ) → ℕ → ℕ → Status → Type 0
IsUnwritten held_before held_now failed_before failed_now result = (result ≡ OutOfMemory) × (held_now ≡ held_before) × (failed_now ≡ failed_before)

-- the whole text was written, and the result is this status; or the output failed within the text
abbrev pub EndsWith : Status → List ℕ → Option (List ℕ) → Option (List ℕ) → ℕ → ℕ → Status → Type 0
EndsWith status text held_before held_now failed_before failed_now result =
    ((result ≡ status) × Appends held_before held_now text)
    ⊎ ((result ≡ WriteFault) × WritesFront text held_before held_now failed_before failed_now)

-- the line closed the output, or the output failed within it; or memory ran out, which is for a line that takes some
abbrev pub Closes : ClosingLine → Option (List ℕ) → Option (List ℕ) → ℕ → ℕ → Status → Type 0
Closes line held_before held_now failed_before failed_now result =
    EndsWith (closing_status line) (closing_text line) held_before held_now failed_before failed_now result
    ⊎ (TakesMemory line × IsUnwritten held_before held_now failed_before failed_now result)
