use Rattle.std.proofs.Common.{List, All, subst}
use Rattle.slash_defs.specs.declared.entry.BlockEntry.{BlockEntry}
use Rattle.slash_defs.specs.FileOrder.{block_cmp, exact_blocks}
use Rattle.protect_record.specs.Floors.{IsDeadBlock, is_dead_block}
use Rattle.protect_record.proofs.LiveLemmas.{at_false, block_decides}
use Rattle.protect_record.proofs.UniteLemmas.{gathered_live, gathered_dropped, dropped}
use Rattle.protect_record.proofs.living.gather_blocks.Goals as goal

pub unite-requires-clause-exact : goal.unite-requires-clause-exact
unite-requires-clause-exact c = exact_blocks

pub returns-then-not-has_dead_block-clause-gathered : goal.returns-then-not-has_dead_block-clause-gathered
returns-then-not-has_dead_block-clause-gathered c =
    gathered_live block_cmp (IsDeadBlock c.args.floors) _ _ _ c.unite.ensures.united
    (subst (λ (xs : List BlockEntry). All (λ e. ¬ (IsDeadBlock c.args.floors e)) xs) c.as_slice.ensures.value (at_false _ _ c.if-not-has_dead_block.true c.has_dead_block.ensures))

pub returns-clause-gathered : goal.returns-clause-gathered
returns-clause-gathered c =
    gathered_dropped block_cmp (IsDeadBlock c.args.floors) _ _ _ _ c.unite.ensures.united
    (dropped block_cmp (IsDeadBlock c.args.floors) (is_dead_block c.args.floors) (block_decides c.args.floors) _ _ c.unite.ensures.united.in_order c.drop_dead_blocks.ensures.items)
