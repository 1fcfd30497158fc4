use Rattle.std.proofs.Common.{◌≡◌, ◌≤◌, length, take}
use Rattle.std.specs.List.{filter}
use Rattle.duty_pruning.specs.Pruning.{is_old_block}
use Rattle.duty_pruning.proofs.pruning.old_blocks.Given as goal

abbrev pub invariant-loop-entry : goal.invariant-loop-entry
invariant-loop-entry l = (l.old ≡ length (filter (is_old_block l.from) (take l.entry-index l.blocks))) × (l.old ≤ l.entry-index)
