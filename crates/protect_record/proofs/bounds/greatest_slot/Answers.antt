use Rattle.std.proofs.Common.{refl, Some}
use Rattle.protect_record.specs.Floors.{greater, greatest_by}
use Rattle.protect_record.proofs.BoundLemmas.{greater-assoc, greater-none, combined_more, combined_all}
use Rattle.protect_record.proofs.bounds.greatest_slot.Goals as goal

pub loop-entry-preserved : goal.loop-entry-preserved
loop-entry-preserved c = rw c.greater_of-greatest.ensures (combined_more greater greater-assoc (greatest_by (λ e. Some e.slot)) (λ e. Some e.slot) (λ x xs. refl) c.args.blocks.now c.loop-entry.entry-index _ c.loop-entry.greatest _ c.loop-entry-test.true c.loop-entry.invariant)

pub returns : goal.returns
returns c = combined_all greater greater-none (greatest_by (λ e. Some e.slot)) refl c.args.blocks.now c.loop-entry.entry-index c.loop-entry.greatest _ c.loop-entry-test.false c.loop-entry.invariant
