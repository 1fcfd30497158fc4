use Rattle.std.proofs.Common.{◌≡◌, ◌+◌, ◌%◌, ◌<◌, length}
use Rattle.duty_workers.proofs.GatherLemmas.{AllBegin}
use Rattle.duty_workers.proofs.shares.gathered.Given as goal

abbrev pub invariant-tasks : goal.invariant-tasks
invariant-tasks g l = record {
  turn : l.at ≡ (l.place + l.i) % length l.lanes;
  below : l.at < length l.lanes;
  count : length l.ends.items ≡ l.i;
  begin : AllBegin l.place l.lanes l.ends.items;
}
