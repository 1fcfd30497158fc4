-- An input that is read to its end.
use Rattle.std.specs.Prelude.{◌≡◌, ℕ, ◌<◌, ◌≤◌, ◌++◌, List, length, Option, Some, None, ⊤}
use Rattle.std.specs.Io.KnownBytes.{Consumes}
use Rattle.edge_kit.specs.Causes.{Rose}
use Rattle.journal_commands.specs.declared.whole.WholeFault.{WholeFault}
use Rattle.journal_commands.specs.declared.whole.WholeFault.TheVariants as fault

-- these bytes more were read
pub record ReadsMore (left_before left_now : Option (List ℕ)) (old new : List ℕ) : Type 0 where
  pub more : List ℕ
  pub taken : Consumes left_before left_now more
  pub bytes : new ≡ old ++ more

-- more bytes were read than the limit lets
abbrev pub PassesLimit : ℕ → Option (List ℕ) → Option (List ℕ) → Type 0
PassesLimit limit left_before left_now = (bytes : List ℕ) × Consumes left_before left_now bytes × (limit < length bytes)

-- why an input was not read to its end: a fault was counted, or more than the limit was read; of memory nothing is said
abbrev pub WholeStops : WholeFault → ℕ → Option (List ℕ) → Option (List ℕ) → ℕ → ℕ → Type 0
WholeStops fault.Read limit left_before left_now faults_before faults_now = Rose faults_before faults_now
WholeStops fault.TooLong limit left_before left_now faults_before faults_now = PassesLimit limit left_before left_now
WholeStops fault.OutOfMemory limit left_before left_now faults_before faults_now = ⊤

-- why no more was read: a fault was counted, or memory ran out
abbrev pub MoreStops : WholeFault → ℕ → ℕ → Type 0
MoreStops fault.Read faults_before faults_now = Rose faults_before faults_now
MoreStops fault.TooLong faults_before faults_now = ⊥
MoreStops fault.OutOfMemory faults_before faults_now = ⊤

-- the input that is left is known, and has at most so many bytes
abbrev pub WithinLimit : ℕ → Option (List ℕ) → Type 0
WithinLimit limit None = ⊥
WithinLimit limit (Some bytes) = length bytes ≤ limit
