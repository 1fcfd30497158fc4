use Rattle.std.proofs.Common.{◌≡◌, drop}
use Rattle.protect_record.specs.Floors.{lesser, least_by}
use Rattle.protect_record.proofs.bounds.least_slot.Given as goal

abbrev pub invariant-loop-entry : goal.invariant-loop-entry
invariant-loop-entry l = lesser l.least (least_by (λ e. e.slot) (drop l.entry-index l.blocks)) ≡ least_by (λ e. e.slot) l.blocks
