use Rattle.std.proofs.Common.{◌≡◌, Some, drop}
use Rattle.protect_record.specs.Floors.{greater, greatest_by}
use Rattle.protect_record.proofs.bounds.greatest_slot.Given as goal

abbrev pub invariant-loop-entry : goal.invariant-loop-entry
invariant-loop-entry l = greater l.greatest (greatest_by (λ e. Some e.slot) (drop l.entry-index l.blocks)) ≡ greatest_by (λ e. Some e.slot) l.blocks
