use Rattle.std.proofs.Common.{◌≡◌, Some, drop}
use Rattle.protect_record.specs.Floors.{greater_pair, greatest_pair_by, epochs}
use Rattle.protect_record.proofs.bounds.most_epochs.Given as goal

abbrev pub invariant-loop-entry : goal.invariant-loop-entry
invariant-loop-entry l = greater_pair l.greatest (greatest_pair_by (λ e. Some (epochs e)) (drop l.entry-index l.votes)) ≡ greatest_pair_by (λ e. Some (epochs e)) l.votes
