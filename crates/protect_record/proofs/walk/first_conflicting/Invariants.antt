use Rattle.std.proofs.Common.{◌≡◌, ℕ, ◌+◌, ◌-◌, ◌<◌, get_or}
use Rattle.slash_defs.specs.declared.entry.BlockEntry.{BlockEntry}
use Rattle.protect_record.specs.Verdicts.{ConflictsWith}
use Rattle.protect_record.proofs.walk.first_conflicting.Given as goal

abbrev pub invariant-loop-at : goal.invariant-loop-at
invariant-loop-at g l = record {
  none : (k : ℕ) (d : BlockEntry) → k < l.at → ¬ (ConflictsWith l.slot l.root (get_or l.blocks k d));
  count : l.steps ≡ l.fn.steps + (l.at - l.fn.range.0);
}
