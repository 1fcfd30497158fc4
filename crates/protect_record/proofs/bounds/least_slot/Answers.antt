use Rattle.std.proofs.Common.{refl, Some}
use Rattle.protect_record.specs.Floors.{lesser, least_by}
use Rattle.protect_record.proofs.BoundLemmas.{lesser-assoc, lesser-none, combined_more, combined_all}
use Rattle.protect_record.proofs.bounds.least_slot.Goals as goal

pub loop-entry-preserved : goal.loop-entry-preserved
loop-entry-preserved c = rw c.lesser_of-least.ensures (combined_more lesser lesser-assoc (least_by (λ e. e.slot)) (λ e. Some e.slot) (λ x xs. refl) c.args.blocks.now c.loop-entry.entry-index _ c.loop-entry.least _ c.loop-entry-test.true c.loop-entry.invariant)

pub returns : goal.returns
returns c = combined_all lesser lesser-none (least_by (λ e. e.slot)) refl c.args.blocks.now c.loop-entry.entry-index c.loop-entry.least _ c.loop-entry-test.false c.loop-entry.invariant
