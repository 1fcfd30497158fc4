use Rattle.std.proofs.Common.{◌≡◌, ◌∙◌, List, true, sym, subst}
use Rattle.duty_schedule.specs.declared.rows.Duty.{Duty}
use Rattle.duty_turns.specs.Turns.{is_block}
use Rattle.duty_workers.specs.Places.{are_placed}
use Rattle.duty_work.proofs.PlacedLemmas.{kind_placed}
use Rattle.duty_work.proofs.RunLemmas.{blocks_done, blocks_short, short}
use Rattle.duty_work.proofs.work.do_due.Goals as goal

pub do_duties-requires-clause-places : goal.do_duties-requires-clause-places
do_duties-requires-clause-places g c = λ lifetimes outlives. subst (λ (l : List Duty). are_placed l ≡ true) (sym (c.as_slice-blocks.ensures.value ∙ c.in-Ok.ensures)) (kind_placed is_block c.args.due.now c.requires.places)

pub vote_at-requires-clause-blocks : goal.vote_at-requires-clause-blocks
vote_at-requires-clause-blocks g c = λ lifetimes outlives. c.as_slice-blocks.ensures.value ∙ c.in-Ok.ensures

pub returns-in_default-clause-runs : goal.returns-in_default-clause-runs
returns-in_default-clause-runs g c = λ nodes s h. short g.K.DeskCalls.leads (g.C.Clock.start c.args.clock.now) _ _ s _

pub returns-in_default-do_duties-clause-runs : goal.returns-in_default-do_duties-clause-runs
returns-in_default-do_duties-clause-runs g c = λ nodes s h. blocks_short g.K.DeskCalls.leads (g.C.Clock.start c.args.clock.now) _ c.args.setup.now s _ _ _ nodes _ c.args.due.now c.as_slice-blocks.result.now (c.as_slice-blocks.ensures.value ∙ c.in-Ok.ensures) (c.in_default-do_duties.ensures.works s h)

pub returns-clause-runs : goal.returns-clause-runs
returns-clause-runs g c = λ nodes s h. blocks_done g.K.DeskCalls.leads (g.C.Clock.start c.args.clock.now) _ c.args.setup.now s _ _ _ nodes _ _ c.args.due.now c.as_slice-blocks.result.now c.in-Ok-do_duties.proposed.items c.votes_start.result c.args.held.now.slot c.wait_until-reached.result _ (c.as_slice-blocks.ensures.value ∙ c.in-Ok.ensures)
    (c.in-Ok-do_duties.ensures.works s h) c.votes_start.ensures h.is.slot c.wait_until-reached.ensures (c.vote_at.ensures.runs nodes s h)
