use Rattle.std.proofs.Common.{◌∙◌, List, ap, length, refl, sym}
use Rattle.std.proofs.lemmas.Bool.{eqb-true, eqb-false}
use Rattle.duty_plans.specs.declared.ended.Ended.{Ended}
use Rattle.duty_plans.specs.Choices.{aggregate_tasks}
use Rattle.duty_turns.specs.Times.{next_slot}
use Rattle.duty_turns.specs.Turns.{at_slot, chooses_plan, finish_plan, gathers_plan, work_of}
use Rattle.duty_work.proofs.RunLemmas.{ends_as, holds_at, tasks_done, tasks_short, turns_as}
use Rattle.duty_work.proofs.TurnLemmas.{choices_none, choices_some}
use Rattle.duty_work.proofs.aggregate.choose_all.Goals as goal

pub returns-then-is_empty-clause-runs : goal.returns-then-is_empty-clause-runs
returns-then-is_empty-clause-runs g c = λ nodes s h.
    ends_as g.K.DeskCalls.leads (g.C.Clock.start c.args.clock.now) _ (chooses_plan c.args.setup.now s c.args.choices.now) (λ n. finish_plan c.args.setup.now n (at_slot (next_slot s.slot) s)) s (at_slot (next_slot s.slot) s) _ _ c.args.held.now.slot c.finish.result
    (choices_none c.args.setup.now s c.args.choices.now (eqb-true (length c.args.choices.now) 0 (sym c.is_empty.ensures ∙ c.if-is_empty.true)))
    h.is.slot (holds_at c.args.held.now _ s (next_slot s.slot) h (c.next_slot-held.ensures ∙ ap (λ n. next_slot n) h.is.slot) refl refl refl refl refl)
    (c.finish.ensures.runs (g.C.Clock.start c.args.clock.now) _ _ _ (at_slot (next_slot s.slot) s) h.is.active)

pub returns-in_default-clause-runs : goal.returns-in_default-clause-runs
returns-in_default-clause-runs g c = λ nodes s h.
    turns_as g.K.DeskCalls.leads (g.C.Clock.start c.args.clock.now) _ (chooses_plan c.args.setup.now s c.args.choices.now) _ _ _ _
    (choices_some c.args.setup.now s c.args.choices.now (eqb-false (length c.args.choices.now) 0 (sym c.is_empty.ensures ∙ c.if-is_empty.false)))
    (tasks_short g.K.DeskCalls.leads (g.C.Clock.start c.args.clock.now) _ s (work_of c.args.setup.now s) 0 c.args.choices.now (λ chosen. gathers_plan c.args.setup.now s c.args.choices.now chosen (aggregate_tasks c.args.choices.now chosen)) _ _ _ nodes _ (c.in_default.ensures.works s h))

pub returns-clause-runs : goal.returns-clause-runs
returns-clause-runs g c = λ nodes s h.
    turns_as g.K.DeskCalls.leads (g.C.Clock.start c.args.clock.now) _ (chooses_plan c.args.setup.now s c.args.choices.now) _ _ _ c.gather.result
    (choices_some c.args.setup.now s c.args.choices.now (eqb-false (length c.args.choices.now) 0 (sym c.is_empty.ensures ∙ c.if-is_empty.false)))
    (tasks_done g.K.DeskCalls.leads (g.C.Clock.start c.args.clock.now) _ (work_of c.args.setup.now s) 0 c.args.choices.now (λ chosen. gathers_plan c.args.setup.now s c.args.choices.now chosen (aggregate_tasks c.args.choices.now chosen)) _ _ _ nodes _ _ c.in-Ok.chosen.items c.gather.result (c.in-Ok.ensures.works s h)
    (turns_as g.K.DeskCalls.leads (g.C.Clock.start c.args.clock.now) _ (gathers_plan c.args.setup.now s c.args.choices.now c.in-Ok.chosen.items (aggregate_tasks c.args.choices.now c.in-Ok.chosen.items)) _ _ _ c.gather.result
    (ap (λ (l : List Ended). gathers_plan c.args.setup.now s c.args.choices.now l (aggregate_tasks c.args.choices.now l)) (sym c.as_slice-chosen.ensures.value)) (c.gather.ensures.runs nodes s h)))
