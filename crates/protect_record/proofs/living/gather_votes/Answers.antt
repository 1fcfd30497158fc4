use Rattle.std.proofs.Common.{List, All, subst}
use Rattle.slash_defs.specs.declared.entry.VoteEntry.{VoteEntry}
use Rattle.slash_defs.specs.FileOrder.{vote_cmp, exact_votes}
use Rattle.protect_record.specs.Floors.{IsDeadVote, is_dead_vote}
use Rattle.protect_record.proofs.LiveLemmas.{at_false, vote_decides}
use Rattle.protect_record.proofs.UniteLemmas.{gathered_live, gathered_dropped, dropped}
use Rattle.protect_record.proofs.living.gather_votes.Goals as goal

pub unite-requires-clause-exact : goal.unite-requires-clause-exact
unite-requires-clause-exact c = exact_votes

pub returns-then-not-has_dead_vote-clause-gathered : goal.returns-then-not-has_dead_vote-clause-gathered
returns-then-not-has_dead_vote-clause-gathered c =
    gathered_live vote_cmp (IsDeadVote c.args.floors) _ _ _ c.unite.ensures.united
    (subst (λ (xs : List VoteEntry). All (λ e. ¬ (IsDeadVote c.args.floors e)) xs) c.as_slice.ensures.value (at_false _ _ c.if-not-has_dead_vote.true c.has_dead_vote.ensures))

pub returns-clause-gathered : goal.returns-clause-gathered
returns-clause-gathered c =
    gathered_dropped vote_cmp (IsDeadVote c.args.floors) _ _ _ _ c.unite.ensures.united
    (dropped vote_cmp (IsDeadVote c.args.floors) (is_dead_vote c.args.floors) (vote_decides c.args.floors) _ _ c.unite.ensures.united.in_order c.drop_dead_votes.ensures.items)
