-- How many kept entries a check looks at.
use Rattle.std.specs.Prelude.{◌≡◌, ◌≢◌, ℕ, ◌+◌, ◌*◌, ◌^◌, ◌≤◌, All, length}
use Rattle.slash_defs.specs.declared.message.Message.{Message}
use Rattle.slash_defs.specs.declared.message.Message.TheVariants as message
use Rattle.protect_record.specs.Parts.{Parts}
use Rattle.protect_record.specs.declared.verdict.Verdict.{Verdict}
use Rattle.protect_record.specs.declared.verdict.Verdict.TheVariants as verdict

-- logarithmically many: of a block where none of its slot is kept, and of a vote that passes where none of its target is kept
abbrev pub TakesFewSteps : Parts → Message → Verdict → ℕ → Type 0
TakesFewSteps parts (message.Block slot root) v steps = All (λ e. e.slot ≢ slot) parts.blocks → 2 ^ steps ≤ 4 * length parts.blocks + 2
TakesFewSteps parts (message.Vote source target root) v steps = v ≡ verdict.Pass → All (λ e. e.target ≢ target) parts.votes → 2 ^ steps ≤ 8 * length parts.votes + 2
