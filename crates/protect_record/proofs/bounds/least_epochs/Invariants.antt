use Rattle.std.proofs.Common.{◌≡◌, drop}
use Rattle.protect_record.specs.Floors.{lesser_pair, least_pair_by, epochs}
use Rattle.protect_record.proofs.bounds.least_epochs.Given as goal

abbrev pub invariant-loop-entry : goal.invariant-loop-entry
invariant-loop-entry l = lesser_pair l.least (least_pair_by epochs (drop l.entry-index l.votes)) ≡ least_pair_by epochs l.votes
