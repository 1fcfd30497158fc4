use Rattle.std.proofs.Common.{◌≡◌, ◌++◌, map, take}
use Rattle.record_codec.specs.declared.item.JournalItem.TheVariants as item
use Rattle.record_replay.proofs.batches.push_blocks.Given as goal

abbrev pub invariant-loop-entry : goal.invariant-loop-entry
invariant-loop-entry l = l.items.items ≡ l.fn.items.items ++ map (item.Block l.key) (take l.entry-index l.blocks)
