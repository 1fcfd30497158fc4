use Rattle.std.proofs.Common.{rules, ◌≡◌, get_or}
use Rattle.protect_record.proofs.LiveLemmas.{lowest_lives, on_false, not_true}
use Rattle.protect_record.proofs.living.has_dead_block.Goals as goal

pub returns-in-Some : goal.returns-in-Some
returns-in-Some c =
    let at : get_or c.args.blocks.now 0 c.in-Some.lowest.now ≡ c.in-Some.lowest.now = search rules in
    on_false _ _ (λ off. lowest_lives c.args.floors c.args.blocks.now c.requires c.in-Some.lowest.now at (λ dead. not_true _ off (c.is_dead_block.ensures.fact.1 dead)))
