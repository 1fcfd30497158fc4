use Rattle.std.proofs.Common.{◌∙◌, List, [], true, false, ap, refl, sym}
use Rattle.duty_plans.specs.declared.ended.Ended.{Ended}
use Rattle.duty_plans.specs.Choices.{reports}
use Rattle.duty_turns.specs.Times.{aggregates_start, next_slot}
use Rattle.duty_turns.specs.Turns.{after_wait, aggregates_plan, at_slot, report_plan, work_of}
use Rattle.duty_asks.specs.Placed.{HoldsPlaced}
use Rattle.duty_work.proofs.RunLemmas.{ends_as, holds_at, tasks_done, tasks_short, turns_as}
use Rattle.duty_work.proofs.TurnLemmas.{after_so, aggregates_late, aggregates_now, missed_so}
use Rattle.duty_work.proofs.aggregate.publish_all.Goals as goal

pub returns-then-is_missed-clause-runs : goal.returns-then-is_missed-clause-runs
returns-then-is_missed-clause-runs g c = λ start nodes s h.
    let held = after_so (λ x. HoldsPlaced c.go_after.new.held x) c.args.setup.now.genesis_time c.args.held.now.slot c.aggregates_start-start.result c.args.reached s aggregates_start c.aggregates_start-start.ensures h.is.slot (c.go_after.ensures s h) in
    ends_as g.K.DeskCalls.leads start _ (aggregates_plan c.args.setup.now s c.args.choices.now c.args.chosen.now c.args.tasks.now c.args.reached) (λ n. report_plan c.args.setup.now n c.args.choices.now (reports c.args.chosen.now []) (after_wait c.args.setup.now.genesis_time (aggregates_start c.args.setup.now.genesis_time s.slot) c.args.reached s)) s (after_wait c.args.setup.now.genesis_time (aggregates_start c.args.setup.now.genesis_time s.slot) c.args.reached s) _ _ c.args.held.now.slot c.report.result
    (aggregates_late c.args.setup.now s c.args.choices.now c.args.chosen.now c.args.tasks.now c.args.reached
    (missed_so c.args.setup.now.genesis_time c.args.held.now.slot c.aggregates_start-start.result s.slot c.args.reached aggregates_start c.is_missed.result true c.is_missed.ensures c.if-is_missed.true c.aggregates_start-start.ensures h.is.slot))
    h.is.slot held (c.report.ensures.runs start _ _ _ held.is.active)

pub returns-in_default-clause-runs : goal.returns-in_default-clause-runs
returns-in_default-clause-runs g c = λ start nodes s h.
    turns_as g.K.DeskCalls.leads start _ (aggregates_plan c.args.setup.now s c.args.choices.now c.args.chosen.now c.args.tasks.now c.args.reached) _ _ _ _
    (aggregates_now c.args.setup.now s c.args.choices.now c.args.chosen.now c.args.tasks.now c.args.reached
    (missed_so c.args.setup.now.genesis_time c.args.held.now.slot c.aggregates_start-start.result s.slot c.args.reached aggregates_start c.is_missed.result false c.is_missed.ensures c.if-is_missed.false c.aggregates_start-start.ensures h.is.slot))
    (tasks_short g.K.DeskCalls.leads start _ s (work_of c.args.setup.now s) 0 c.args.tasks.now (λ ends. report_plan c.args.setup.now s.slot c.args.choices.now (reports c.args.chosen.now ends) (at_slot (next_slot s.slot) s)) _ _ _ nodes _ (c.in_default.ensures.works s h))

pub returns-clause-runs : goal.returns-clause-runs
returns-clause-runs g c = λ start nodes s h.
    turns_as g.K.DeskCalls.leads start _ (aggregates_plan c.args.setup.now s c.args.choices.now c.args.chosen.now c.args.tasks.now c.args.reached) _ _ _ c.report-2.result
    (aggregates_now c.args.setup.now s c.args.choices.now c.args.chosen.now c.args.tasks.now c.args.reached
    (missed_so c.args.setup.now.genesis_time c.args.held.now.slot c.aggregates_start-start.result s.slot c.args.reached aggregates_start c.is_missed.result false c.is_missed.ensures c.if-is_missed.false c.aggregates_start-start.ensures h.is.slot))
    (tasks_done g.K.DeskCalls.leads start _ (work_of c.args.setup.now s) 0 c.args.tasks.now (λ ends. report_plan c.args.setup.now s.slot c.args.choices.now (reports c.args.chosen.now ends) (at_slot (next_slot s.slot) s)) _ _ _ nodes _ _ c.in-Ok.ends.items c.report-2.result (c.in-Ok.ensures.works s h)
    (ends_as g.K.DeskCalls.leads start _ (report_plan c.args.setup.now s.slot c.args.choices.now (reports c.args.chosen.now c.in-Ok.ends.items) (at_slot (next_slot s.slot) s)) (λ n. report_plan c.args.setup.now n c.args.choices.now (reports c.args.chosen.now c.as_slice-ends.result.now) (at_slot (next_slot s.slot) s)) s (at_slot (next_slot s.slot) s) _ _ c.args.held.now.slot c.report-2.result
    (ap (λ (l : List Ended). report_plan c.args.setup.now s.slot c.args.choices.now (reports c.args.chosen.now l) (at_slot (next_slot s.slot) s)) (sym c.as_slice-ends.ensures.value))
    h.is.slot (holds_at c.args.held.now _ s (next_slot s.slot) h (c.next_slot-held.ensures ∙ ap (λ n. next_slot n) h.is.slot) refl refl refl refl refl) (c.report-2.ensures.runs start _ _ (at_slot (next_slot s.slot) s) h.is.active)))
