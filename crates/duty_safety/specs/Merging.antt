-- What the loop merges: only what forgets what is old of a file that the desk exported just before.
use Rattle.std.specs.Prelude.{◌≡◌, ℕ, List, [], ◌∷◌, Option, Some, None, IsSomeAnd}
use Rattle.slash_defs.specs.declared.book.File.{File}
use Rattle.desk_machine.specs.declared.call.DeskCall.TheVariants as call
use Rattle.desk_machine.specs.declared.call.DeskReply.TheVariants as reply
use Rattle.duty_pruning.specs.Pruning.{pruning_file}
use Rattle.duty_plans.specs.Steps.{Calls, Replies}
use Rattle.duty_turns.specs.TurnSteps.{TurnCall, TurnStep, Own, Owned}

-- the file that the desk exported by this step, if it did
abbrev pub exported_by : TurnStep → Option File
exported_by (Own (Calls (call.Export keys)), Owned (Replies (reply.Exported file))) = Some file
exported_by s = None

-- where a file is merged, not all is kept, and it forgets what is old at this epoch of this exported file
abbrev pub MayMerge : Option ℕ → ℕ → Option File → TurnCall → Type 0
MayMerge keep_epochs epoch exported (Own (Calls (call.Merge file))) = IsSomeAnd keep_epochs (λ keep. IsSomeAnd exported (λ of. file ≡ pruning_file keep epoch of))
MayMerge keep_epochs epoch exported c = Unit {0}

-- so of each of these steps the file that was exported by the step before it, and of the first this one, if it is one
abbrev pub MergesOnly : Option ℕ → ℕ → Option File → List TurnStep → Type 0
MergesOnly keep_epochs epoch exported [] = Unit {0}
MergesOnly keep_epochs epoch exported (s ∷ steps) = MayMerge keep_epochs epoch exported s.0 × MergesOnly keep_epochs epoch (exported_by s) steps
