use Rattle.std.proofs.Common.{◌≡◌, ◌==◌, ◌++◌, filter, drop}
use Rattle.protect_record.proofs.pruning.blocks_of_slot.Given as goal

abbrev pub invariant-blocks-2 : goal.invariant-blocks-2
invariant-blocks-2 l = l.list.items ++ filter (λ e. e.slot == l.slot) (drop l.entry-index l.blocks) ≡ filter (λ e. e.slot == l.slot) l.blocks
