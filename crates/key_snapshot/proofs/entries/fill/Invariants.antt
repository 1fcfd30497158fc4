use Rattle.std.proofs.Common.{◌≡◌, ◌-◌, ◌≤◌, ◌++◌, map, length}
use Rattle.protect_record.specs.Iterating.{entries_left}
use Rattle.key_snapshot.specs.Taking.{item_of}
use Rattle.key_snapshot.proofs.entries.fill.Given as goal

abbrev pub invariant-entries : goal.invariant-entries
invariant-entries l = record {
  split : l.fn.batch.items ++ map (item_of l.key) (entries_left l.fn.kept) ≡ l.batch.items ++ map (item_of l.key) (entries_left l.kept);
  within : length l.batch.items ≤ 4096;
}

abbrev pub decreases-entries : goal.decreases-entries
decreases-entries l = 4096 - length l.batch.items
