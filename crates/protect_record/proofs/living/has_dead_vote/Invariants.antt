use Rattle.std.proofs.Common.{ℕ, ◌<◌, get_or}
use Rattle.slash_defs.specs.declared.entry.VoteEntry.{VoteEntry}
use Rattle.protect_record.specs.Floors.{IsDeadVote}
use Rattle.protect_record.proofs.living.has_dead_vote.Given as goal

abbrev pub invariant-loop-entry : goal.invariant-loop-entry
invariant-loop-entry l = (k : ℕ) (d : VoteEntry) → k < l.entry-index → ¬ (IsDeadVote l.floors (get_or l.votes k d))
