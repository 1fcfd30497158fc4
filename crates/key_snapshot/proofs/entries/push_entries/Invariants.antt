use Rattle.std.proofs.Common.{◌≡◌, ◌++◌, map, length}
use Rattle.protect_record.specs.Iterating.{entries_left}
use Rattle.key_snapshot.specs.Cuts.{cut}
use Rattle.key_snapshot.specs.Snapshots.{entry_items}
use Rattle.key_snapshot.specs.Taking.{item_of}
use Rattle.key_snapshot.proofs.entries.push_entries.Given as goal

abbrev pub invariant-batches : goal.invariant-batches
invariant-batches l =
    map (λ v. v.items) l.fn.batches.items ++ cut 4096 (entry_items l.key l.kept)
    ≡ map (λ v. v.items) l.batches.items ++ cut 4096 (map (item_of l.key) (entries_left l.blocks ++ entries_left l.votes))

abbrev pub decreases-batches : goal.decreases-batches
decreases-batches l = length (map (item_of l.key) (entries_left l.blocks ++ entries_left l.votes))
