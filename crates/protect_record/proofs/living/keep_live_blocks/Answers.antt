use Rattle.slash_defs.specs.FileOrder.{block_cmp, exact_blocks}
use Rattle.protect_record.specs.Floors.{IsDeadBlock, is_dead_block}
use Rattle.protect_record.proofs.LiveLemmas.{block_decides}
use Rattle.protect_record.proofs.UniteLemmas.{dropped, once_dropped}
use Rattle.protect_record.proofs.living.keep_live_blocks.Goals as goal

pub sort_once-requires : goal.sort_once-requires
sort_once-requires c = exact_blocks

pub returns : goal.returns
returns c =
    once_dropped block_cmp (IsDeadBlock c.args.floors) _ _ _ c.sort_once.ensures
    (dropped block_cmp (IsDeadBlock c.args.floors) (is_dead_block c.args.floors) (block_decides c.args.floors) _ _ c.sort_once.ensures.in_order c.drop_dead_blocks.ensures.items)
