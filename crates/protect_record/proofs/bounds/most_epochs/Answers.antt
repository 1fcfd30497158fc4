use Rattle.std.proofs.Common.{refl, Some}
use Rattle.protect_record.specs.Floors.{greater_pair, greatest_pair_by, epochs}
use Rattle.protect_record.proofs.BoundLemmas.{greater_pair-assoc, greater_pair-none, combined_more, combined_all}
use Rattle.protect_record.proofs.bounds.most_epochs.Goals as goal

pub loop-entry-preserved : goal.loop-entry-preserved
loop-entry-preserved c = rw c.greater_of_pairs-greatest.ensures (combined_more greater_pair greater_pair-assoc (greatest_pair_by (λ e. Some (epochs e))) (λ e. Some (epochs e)) (λ x xs. refl) c.args.votes.now c.loop-entry.entry-index _ c.loop-entry.greatest _ c.loop-entry-test.true c.loop-entry.invariant)

pub returns : goal.returns
returns c = combined_all greater_pair greater_pair-none (greatest_pair_by (λ e. Some (epochs e))) refl c.args.votes.now c.loop-entry.entry-index c.loop-entry.greatest _ c.loop-entry-test.false c.loop-entry.invariant
