use Rattle.std.proofs.Common.{refl, Some}
use Rattle.protect_record.specs.Floors.{lesser_pair, least_pair_by, epochs}
use Rattle.protect_record.proofs.BoundLemmas.{lesser_pair-assoc, lesser_pair-none, combined_more, combined_all}
use Rattle.protect_record.proofs.bounds.least_epochs.Goals as goal

pub loop-entry-preserved : goal.loop-entry-preserved
loop-entry-preserved c = rw c.lesser_of_pairs-least.ensures (combined_more lesser_pair lesser_pair-assoc (least_pair_by epochs) (λ e. Some (epochs e)) (λ x xs. refl) c.args.votes.now c.loop-entry.entry-index _ c.loop-entry.least _ c.loop-entry-test.true c.loop-entry.invariant)

pub returns : goal.returns
returns c = combined_all lesser_pair lesser_pair-none (least_pair_by epochs) refl c.args.votes.now c.loop-entry.entry-index c.loop-entry.least _ c.loop-entry-test.false c.loop-entry.invariant
