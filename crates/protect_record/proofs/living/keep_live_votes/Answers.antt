use Rattle.slash_defs.specs.FileOrder.{vote_cmp, exact_votes}
use Rattle.protect_record.specs.Floors.{IsDeadVote, is_dead_vote}
use Rattle.protect_record.proofs.LiveLemmas.{vote_decides}
use Rattle.protect_record.proofs.UniteLemmas.{dropped, once_dropped}
use Rattle.protect_record.proofs.living.keep_live_votes.Goals as goal

pub sort_once-requires : goal.sort_once-requires
sort_once-requires c = exact_votes

pub returns : goal.returns
returns c =
    once_dropped vote_cmp (IsDeadVote c.args.floors) _ _ _ c.sort_once.ensures
    (dropped vote_cmp (IsDeadVote c.args.floors) (is_dead_vote c.args.floors) (vote_decides c.args.floors) _ _ c.sort_once.ensures.in_order c.drop_dead_votes.ensures.items)
