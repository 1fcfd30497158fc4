-- What a rehearsal writes.
use Rattle.std.specs.Prelude.{◌⊎◌, ℕ, List, ◌++◌, codes, decimal}
use Rattle.command_line.specs.declared.planned.Plan.{Plan}
use Rattle.command_line.specs.declared.planned.Plan.TheVariants as plan
use Rattle.journal_commands.specs.Views.{EndsBy, Output, Unwritten}
use Rattle.program_end.specs.declared.status.Status.{Status}
use Rattle.program_end.specs.declared.status.Status.TheVariants as status
use Rattle.rehearsal.specs.Rehearsals.{IsRehearsal}
use Rattle.rehearsal.specs.declared.counts.Counts.{Counts}

-- a count after its word
abbrev pub count_line : List ℕ → ℕ → List ℕ
count_line word count = word ++ (codes " " ++ (decimal count ++ codes "\n"))

-- the line of each count
abbrev pub counts_text : Counts → List ℕ
counts_text counts =
    count_line (codes "steps") counts.steps
    ++ count_line (codes "granted") counts.granted
    ++ count_line (codes "refused") counts.refused
    ++ count_line (codes "handovers") counts.handovers
    ++ count_line (codes "stops") counts.stops
    ++ count_line (codes "unsafe") counts.conflicts

-- the counts of the rehearsal are written, the slashable pairs last, of which there are none
pub record Rehearsed (number clients steps : ℕ) (before now : Output) (ended : Status) : Type 0 where
  pub counts : Counts
  pub is : IsRehearsal number clients steps counts
  pub writes : EndsBy status.Done (counts_text counts) before now ended

-- so it ends, or for want of memory before anything is written
abbrev pub RehearsalEnds : ℕ → ℕ → ℕ → Output → Output → Status → Type 0
RehearsalEnds number clients steps before now ended = Rehearsed number clients steps before now ended ⊎ Unwritten before now ended

-- a rehearsal in which nothing failed is done, or ends for want of memory
abbrev pub IsRehearsalComplete : Status → Type 0
IsRehearsalComplete status.Done = Unit {0}
IsRehearsalComplete status.OutOfMemory = Unit {0}
IsRehearsalComplete s = ⊥

-- the plan is a rehearsal's
abbrev pub IsRehearse : Plan → Type 0
IsRehearse (plan.Rehearse number size) = Unit {0}
IsRehearse p = ⊥
