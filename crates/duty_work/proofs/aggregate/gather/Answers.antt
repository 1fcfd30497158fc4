use Rattle.std.proofs.Common.{◌≡◌, ◌∙◌, List, [], ap, length, refl, sym, subst, true}
use Rattle.std.proofs.lemmas.Bool.{eqb-true, eqb-false}
use Rattle.duty_plans.specs.declared.task.Task.{Task}
use Rattle.duty_plans.specs.Choices.{aggregate_tasks, reports}
use Rattle.duty_turns.specs.Times.{aggregates_start, next_slot}
use Rattle.duty_turns.specs.Turns.{aggregates_plan, at_slot, gathers_plan, report_plan}
use Rattle.duty_workers.specs.Places.{are_placed_tasks}
use Rattle.duty_work.proofs.PlacedLemmas.{aggregates_placed}
use Rattle.duty_work.proofs.RunLemmas.{ends_as, holds_at, looked_at, short, turns_as}
use Rattle.duty_work.proofs.TurnLemmas.{gathers_none, gathers_some}
use Rattle.duty_work.proofs.aggregate.gather.Goals as goal

pub publish_all-requires-clause-places : goal.publish_all-requires-clause-places
publish_all-requires-clause-places g c = λ lifetimes outlives. subst (λ (l : List Task). are_placed_tasks l ≡ true) (sym (c.as_slice-tasks.ensures.value ∙ c.in-Ok.ensures)) (aggregates_placed c.args.choices.now c.args.chosen.now c.requires.places)

pub returns-in_default-clause-runs : goal.returns-in_default-clause-runs
returns-in_default-clause-runs g c = λ nodes s h. short g.K.DeskCalls.leads (g.C.Clock.start c.args.clock.now) _ _ s _

pub returns-then-is_empty-clause-runs : goal.returns-then-is_empty-clause-runs
returns-then-is_empty-clause-runs g c = λ nodes s h.
    ends_as g.K.DeskCalls.leads (g.C.Clock.start c.args.clock.now) _ (gathers_plan c.args.setup.now s c.args.choices.now c.args.chosen.now (aggregate_tasks c.args.choices.now c.args.chosen.now)) (λ n. report_plan c.args.setup.now n c.args.choices.now (reports c.args.chosen.now []) (at_slot (next_slot s.slot) s)) s (at_slot (next_slot s.slot) s) _ _ c.args.held.now.slot c.report.result
    (gathers_none c.args.setup.now s c.args.choices.now c.args.chosen.now c.as_slice-tasks.result.now (aggregate_tasks c.args.choices.now c.args.chosen.now) (c.as_slice-tasks.ensures.value ∙ c.in-Ok.ensures) (eqb-true (length c.as_slice-tasks.result.now) 0 (sym c.is_empty.ensures ∙ c.if-is_empty.true)))
    h.is.slot (holds_at c.args.held.now _ s (next_slot s.slot) h (c.next_slot-held.ensures ∙ ap (λ n. next_slot n) h.is.slot) refl refl refl refl refl)
    (c.report.ensures.runs (g.C.Clock.start c.args.clock.now) _ _ (at_slot (next_slot s.slot) s) h.is.active)

pub returns-clause-runs : goal.returns-clause-runs
returns-clause-runs g c = λ nodes s h.
    turns_as g.K.DeskCalls.leads (g.C.Clock.start c.args.clock.now) _ (gathers_plan c.args.setup.now s c.args.choices.now c.args.chosen.now (aggregate_tasks c.args.choices.now c.args.chosen.now)) _ _ _ c.publish_all.result
    (gathers_some c.args.setup.now s c.args.choices.now c.args.chosen.now c.as_slice-tasks.result.now (aggregate_tasks c.args.choices.now c.args.chosen.now) (c.as_slice-tasks.ensures.value ∙ c.in-Ok.ensures) (eqb-false (length c.as_slice-tasks.result.now) 0 (sym c.is_empty.ensures ∙ c.if-is_empty.false)))
    (looked_at g.K.DeskCalls.leads (g.C.Clock.start c.args.clock.now) _ aggregates_start c.args.setup.now.genesis_time (aggregates_plan c.args.setup.now s c.args.choices.now c.args.chosen.now c.as_slice-tasks.result.now) _ _ c.aggregates_start.result c.args.held.now.slot s.slot c.wait_until-reached.result c.publish_all.result
    c.aggregates_start.ensures h.is.slot c.wait_until-reached.ensures (c.publish_all.ensures.runs (g.C.Clock.start c.args.clock.now) nodes s h))
