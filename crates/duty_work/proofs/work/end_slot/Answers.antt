use Rattle.std.proofs.Common.{◌≡◌, ◌∙◌, List, true, false, length, sym, subst}
use Rattle.std.proofs.lemmas.Bool.{eqb-true, eqb-false}
use Rattle.duty_plans.specs.declared.task.Task.{Task}
use Rattle.duty_turns.specs.Times.{again_start}
use Rattle.duty_turns.specs.Turns.{again_plan, tried_plan}
use Rattle.duty_workers.specs.Places.{are_placed_tasks}
use Rattle.duty_work.proofs.PlacedLemmas.{again_placed}
use Rattle.duty_work.proofs.RunLemmas.{looked_at, short, turns_as}
use Rattle.duty_work.proofs.TurnLemmas.{left_none, left_some}
use Rattle.duty_work.proofs.work.end_slot.Goals as goal

pub try_again-requires-clause-places : goal.try_again-requires-clause-places
try_again-requires-clause-places g c = λ lifetimes outlives. subst (λ (l : List Task). are_placed_tasks l ≡ true) (sym (c.as_slice-tasks.ensures.value ∙ c.in-Ok.ensures)) (again_placed c.args.duties.now c.args.ends.now c.requires.places)

pub returns-in_default-clause-runs : goal.returns-in_default-clause-runs
returns-in_default-clause-runs g c = λ nodes s h. short g.K.DeskCalls.leads (g.C.Clock.start c.args.clock.now) _ _ s _

pub returns-then-is_empty-clause-runs : goal.returns-then-is_empty-clause-runs
returns-then-is_empty-clause-runs g c = λ nodes s h.
    turns_as g.K.DeskCalls.leads (g.C.Clock.start c.args.clock.now) _ (again_plan c.args.setup.now s c.args.duties.now c.args.ends.now) _ _ _ c.report_ended.result
    (left_none c.args.setup.now s c.args.duties.now c.args.ends.now c.as_slice-tasks.result.now (c.as_slice-tasks.ensures.value ∙ c.in-Ok.ensures) (eqb-true (length c.as_slice-tasks.result.now) 0 (sym c.is_empty.ensures ∙ c.if-is_empty.true)))
    (c.report_ended.ensures.runs nodes s h)

pub returns-clause-runs : goal.returns-clause-runs
returns-clause-runs g c = λ nodes s h.
    turns_as g.K.DeskCalls.leads (g.C.Clock.start c.args.clock.now) _ (again_plan c.args.setup.now s c.args.duties.now c.args.ends.now) _ _ _ c.try_again.result
    (left_some c.args.setup.now s c.args.duties.now c.args.ends.now c.as_slice-tasks.result.now (c.as_slice-tasks.ensures.value ∙ c.in-Ok.ensures) (eqb-false (length c.as_slice-tasks.result.now) 0 (sym c.is_empty.ensures ∙ c.if-is_empty.false)))
    (looked_at g.K.DeskCalls.leads (g.C.Clock.start c.args.clock.now) _ again_start c.args.setup.now.genesis_time (tried_plan c.args.setup.now s c.args.duties.now c.args.ends.now c.as_slice-tasks.result.now) _ _ c.again_start.result c.args.held.now.slot s.slot c.wait_until-reached.result c.try_again.result
    c.again_start.ensures h.is.slot c.wait_until-reached.ensures (c.try_again.ensures.runs nodes s h))
