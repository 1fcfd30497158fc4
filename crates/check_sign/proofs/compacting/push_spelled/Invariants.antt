use Rattle.std.proofs.Common.{List, ◌++◌, map, take}
use Rattle.record_codec.specs.declared.item.JournalItem.{JournalItem}
use Rattle.check_sign.specs.DeskBatches.{AreSpelled}
use Rattle.check_sign.proofs.compacting.push_spelled.Given as goal

abbrev pub invariant-batches : goal.invariant-batches
invariant-batches l = (before : List (List JournalItem)) → AreSpelled (map (λ v. v.items) l.fn.payloads.items) before
    → AreSpelled (map (λ v. v.items) l.payloads.items) (before ++ map (λ v. v.items) (take l.batch-index l.batches))
