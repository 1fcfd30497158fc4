use Rattle.std.proofs.Common.{length}
use Rattle.record_codec.proofs.Batches.{Counted}
use Rattle.record_codec.proofs.reading.check_records.Given as goal

abbrev pub invariant-items : goal.invariant-items
invariant-items l = Counted l.payload l.rest

abbrev pub decreases-items : goal.decreases-items
decreases-items l = length l.rest
