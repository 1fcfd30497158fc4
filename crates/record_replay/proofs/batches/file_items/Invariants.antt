use Rattle.std.proofs.Common.{◌≡◌, take}
use Rattle.record_replay.specs.Batches.{file_items}
use Rattle.record_replay.proofs.batches.file_items.Given as goal

abbrev pub invariant-loop-listed : goal.invariant-loop-listed
invariant-loop-listed l = l.items.items ≡ file_items (take l.listed-index l.books)
