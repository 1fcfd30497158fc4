use Rattle.std.proofs.Common.{◌≡◌, ℕ, ◌+◌, ◌-◌, ◌<◌, get_or}
use Rattle.slash_defs.specs.declared.entry.VoteEntry.{VoteEntry}
use Rattle.protect_record.specs.Verdicts.{Clashes}
use Rattle.protect_record.proofs.walk.first_clash.Given as goal

abbrev pub invariant-loop-at : goal.invariant-loop-at
invariant-loop-at g l = record {
  none : (k : ℕ) (d : VoteEntry) → k < l.at → ¬ (Clashes l.kind l.source l.target l.root (get_or l.votes k d));
  count : l.steps ≡ l.fn.steps + (l.at - l.fn.range.0);
}
