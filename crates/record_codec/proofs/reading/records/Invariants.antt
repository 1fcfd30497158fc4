use Rattle.std.proofs.Common.{◌+◌, ◌≤◌, length}
use Rattle.record_codec.proofs.Fields.{AreBytes}
use Rattle.record_codec.proofs.Batches.{SoFar}
use Rattle.record_codec.proofs.reading.records.Given as goal

abbrev pub invariant-items : goal.invariant-items
invariant-items l = record {
  so_far : SoFar l.payload l.items.items l.rest;
  count : length l.items.items + length l.rest ≤ length l.payload;
  bytes : AreBytes l.rest;
}

abbrev pub decreases-items : goal.decreases-items
decreases-items l = length l.rest
