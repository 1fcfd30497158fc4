use Rattle.std.proofs.Common.{◌≡◌, ◌∙◌, ◌++◌, List, true, sym, subst}
use Rattle.std.specs.Prelude.{not}
use Rattle.duty_schedule.specs.declared.rows.Duty.{Duty}
use Rattle.duty_turns.specs.Turns.{again_plan, blocks_in, is_block, votes_in}
use Rattle.duty_workers.specs.Places.{are_placed}
use Rattle.duty_work.proofs.PlacedLemmas.{both_placed, kind_placed}
use Rattle.duty_work.proofs.RunLemmas.{short, votes_done, votes_short}
use Rattle.duty_work.proofs.work.cast_now.Goals as goal

pub cast_votes-requires-clause-places : goal.cast_votes-requires-clause-places
cast_votes-requires-clause-places g c = λ lifetimes outlives. subst (λ (l : List Duty). are_placed l ≡ true) (sym (c.as_slice-votes.ensures.value ∙ c.in-Ok.ensures)) (kind_placed (λ d. not (is_block d)) c.args.due.now c.requires.places)

pub end_both-requires-clause-places : goal.end_both-requires-clause-places
end_both-requires-clause-places g c = λ lifetimes outlives. both_placed c.args.due.now c.args.blocks.now c.as_slice-votes.result.now c.requires.blocks (c.as_slice-votes.ensures.value ∙ c.in-Ok.ensures) c.requires.places

pub returns-in_default-clause-runs : goal.returns-in_default-clause-runs
returns-in_default-clause-runs g c = λ nodes s h. short g.K.DeskCalls.leads (g.C.Clock.start c.args.clock.now) _ _ s _

pub returns-in_default-cast_votes-clause-runs : goal.returns-in_default-cast_votes-clause-runs
returns-in_default-cast_votes-clause-runs g c = λ nodes s h.
    votes_short g.K.DeskCalls.leads (g.C.Clock.start c.args.clock.now) _ c.args.setup.now s _ _ c.args.due.now c.args.blocks.now c.as_slice-votes.result.now c.args.proposed.items c.requires.blocks (c.as_slice-votes.ensures.value ∙ c.in-Ok.ensures)
    (c.in_default-cast_votes.ensures.cast (g.C.Clock.start c.args.clock.now) nodes _ s (λ cast. again_plan c.args.setup.now s (blocks_in c.args.due.now ++ votes_in c.args.due.now) (c.args.proposed.items ++ cast)) h)

pub returns-clause-runs : goal.returns-clause-runs
returns-clause-runs g c = λ nodes s h.
    votes_done g.K.DeskCalls.leads (g.C.Clock.start c.args.clock.now) _ c.args.setup.now s _ _ c.args.due.now c.args.blocks.now c.as_slice-votes.result.now c.args.proposed.items c.requires.blocks (c.as_slice-votes.ensures.value ∙ c.in-Ok.ensures) _ c.in-Ok-cast_votes.cast.items c.end_both.result
    (c.in-Ok-cast_votes.ensures.cast (g.C.Clock.start c.args.clock.now) nodes _ s (λ cast. again_plan c.args.setup.now s (blocks_in c.args.due.now ++ votes_in c.args.due.now) (c.args.proposed.items ++ cast)) h) (c.end_both.ensures.runs nodes s h)
