use Rattle.std.proofs.Common.{List, ◌++◌, take}
use Rattle.record_codec.specs.declared.item.JournalItem.{JournalItem}
use Rattle.record_replay.specs.Gathering.{IsGathered}
use Rattle.record_replay.proofs.histories.Histories.take_items.Given as goal

abbrev pub invariant-loop-item : goal.invariant-loop-item
invariant-loop-item l =
    (before : List JournalItem) → IsGathered before l.fn.self.keys.entries l.fn.self.states.entries l.fn.self.watches.entries → IsGathered (before ++ take l.item-index l.items) l.self.keys.entries l.self.states.entries l.self.watches.entries
