-- The verdict of a record on a message: the first line of the table that holds.
use Rattle.std.specs.Prelude.{◌≡◌, ◌≢◌, ℕ, ◌<◌, ◌≤◌, ◌⊎◌, List, Option, Some, All, IfSome, IsSomeAnd}
use Rattle.edge_kit.specs.declared.bytes.Root.{Root}
use Rattle.slash_defs.specs.declared.message.Message.{Message}
use Rattle.slash_defs.specs.declared.message.Message.TheVariants as message
use Rattle.slash_defs.specs.declared.entry.BlockEntry.{BlockEntry}
use Rattle.slash_defs.specs.declared.entry.VoteEntry.{VoteEntry}
use Rattle.slash_defs.specs.declared.entry.Entry.TheVariants as entry
use Rattle.slash_defs.specs.Slashing as slashing
use Rattle.slash_defs.specs.Slashing.{Conflict, Differs}
use Rattle.slash_defs.specs.FileOrder.{block_cmp, vote_cmp}
use Rattle.protect_record.specs.Order.{IsFirst}
use Rattle.protect_record.specs.Parts.{Parts}
use Rattle.protect_record.specs.declared.clash.Clash.{Clash}
use Rattle.protect_record.specs.declared.clash.Clash.TheVariants as clash
use Rattle.protect_record.specs.declared.verdict.Verdict.{Verdict}
use Rattle.protect_record.specs.declared.verdict.Verdict.TheVariants as verdict

-- how a kept vote forbids a vote: the parts of `Conflict` for votes (EIP-3076, condition 3)
abbrev pub Clashes : Clash → ℕ → ℕ → Root → VoteEntry → Type 0
Clashes clash.Double source target root kept = (kept.target ≡ target) × ((kept.source ≢ source) ⊎ Differs kept.root root)
Clashes clash.Surrounds source target root kept = slashing.Surrounds source target kept.source kept.target
Clashes clash.Surrounded source target root kept = slashing.Surrounds kept.source kept.target source target

-- no kept vote forbids it so
abbrev pub NoneClashes : Clash → ℕ → ℕ → Root → List VoteEntry → Type 0
NoneClashes kind source target root votes = All (λ kept. ¬ (Clashes kind source target root kept)) votes

-- the first in file order that forbids it so
abbrev pub IsFirstClash : Clash → ℕ → ℕ → Root → List VoteEntry → VoteEntry → Type 0
IsFirstClash kind source target root votes kept = IsFirst vote_cmp (Clashes kind source target root) votes kept

-- a kept block forbids a block (EIP-3076, condition 1)
abbrev pub ConflictsWith : ℕ → Root → BlockEntry → Type 0
ConflictsWith slot root kept = Conflict (entry.Block kept) (message.Block slot root)

-- neither floor forbids the vote
abbrev pub IsOverFloors : Option (ℕ × ℕ) → ℕ → ℕ → Type 0
IsOverFloors floors source target = IfSome floors (λ floor. (floor.0 ≤ source) × (floor.1 ≤ target))

-- of a block: its floor, then the kept blocks
abbrev pub IsBlockVerdict : Option ℕ → List BlockEntry → ℕ → Root → Verdict → Type 0
IsBlockVerdict floor blocks slot root (verdict.SlotBelow f) = (floor ≡ Some f) × (slot < f)
IsBlockVerdict floor blocks slot root (verdict.DoubleBlock e) = IfSome floor (λ f. f ≤ slot) × IsFirst block_cmp (ConflictsWith slot root) blocks e
IsBlockVerdict floor blocks slot root verdict.Pass = IfSome floor (λ f. f ≤ slot) × All (λ e. ¬ (ConflictsWith slot root e)) blocks
IsBlockVerdict floor blocks slot root v = ⊥

-- of a vote: its source floor, its target floor, a double vote, a vote that it surrounds, a vote that surrounds it
abbrev pub IsVoteVerdict : Option (ℕ × ℕ) → List VoteEntry → ℕ → ℕ → Root → Verdict → Type 0
IsVoteVerdict floors votes s t r (verdict.SourceBelow f) = IsSomeAnd floors (λ floor. (f ≡ floor.0) × (s < floor.0))
IsVoteVerdict floors votes s t r (verdict.TargetBelow f) = IsSomeAnd floors (λ floor. (floor.0 ≤ s) × (f ≡ floor.1) × (t < floor.1))
IsVoteVerdict floors votes s t r (verdict.DoubleVote e) = IsOverFloors floors s t × IsFirstClash clash.Double s t r votes e
IsVoteVerdict floors votes s t r (verdict.Surrounds e) =
    IsOverFloors floors s t × NoneClashes clash.Double s t r votes × IsFirstClash clash.Surrounds s t r votes e
IsVoteVerdict floors votes s t r (verdict.Surrounded e) =
    IsOverFloors floors s t × NoneClashes clash.Double s t r votes × NoneClashes clash.Surrounds s t r votes
    × IsFirstClash clash.Surrounded s t r votes e
IsVoteVerdict floors votes s t r verdict.Pass =
    IsOverFloors floors s t × NoneClashes clash.Double s t r votes × NoneClashes clash.Surrounds s t r votes
    × NoneClashes clash.Surrounded s t r votes
IsVoteVerdict floors votes s t r v = ⊥

-- of a message, by its kind; a verdict of the other kind is none
abbrev pub IsVerdict : Parts → Message → Verdict → Type 0
IsVerdict parts (message.Block slot root) v = IsBlockVerdict parts.floors.block parts.blocks slot root v
IsVerdict parts (message.Vote source target root) v = IsVoteVerdict parts.floors.vote parts.votes source target root v
