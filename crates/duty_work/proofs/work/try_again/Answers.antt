use Rattle.std.proofs.Common.{List, true, false, refl, ap}
use Rattle.duty_plans.specs.declared.ended.Ended.{Ended}
use Rattle.duty_plans.specs.Ends.{merged, results_of}
use Rattle.duty_turns.specs.Times.{again_start}
use Rattle.duty_turns.specs.Turns.{after_wait, told_plan, tried_plan, work_of}
use Rattle.duty_asks.specs.Placed.{HoldsPlaced}
use Rattle.duty_work.proofs.RunLemmas.{closed_as, results_as, tasks_done, tasks_short, turns_as}
use Rattle.duty_work.proofs.TurnLemmas.{after_so, missed_so, tried_late, tried_now}
use Rattle.duty_work.proofs.work.try_again.Goals as goal

pub returns-then-is_missed-clause-runs : goal.returns-then-is_missed-clause-runs
returns-then-is_missed-clause-runs g c = λ nodes s h.
    let held = after_so (λ x. HoldsPlaced c.go_after.new.held x) c.args.setup.now.genesis_time c.args.held.now.slot c.again_start-start.result c.args.reached s again_start c.again_start-start.ensures h.is.slot (c.go_after.ensures s h) in
    closed_as g.K.DeskCalls.leads (g.C.Clock.start c.args.clock.now) _ c.args.setup.now (tried_plan c.args.setup.now s c.args.duties.now c.args.ends.now c.args.tasks.now c.args.reached) s (after_wait c.args.setup.now.genesis_time (again_start c.args.setup.now.genesis_time s.slot) c.args.reached s) _ _ c.args.held.now.slot c.args.duties.now c.args.duties.now
    (results_of c.args.ends.now) (results_of c.args.ends.now) c.close_ended.result
    (tried_late c.args.setup.now s c.args.duties.now c.args.ends.now c.args.tasks.now c.args.reached
    (missed_so c.args.setup.now.genesis_time c.args.held.now.slot c.again_start-start.result s.slot c.args.reached again_start c.is_missed.result true c.is_missed.ensures c.if-is_missed.true c.again_start-start.ensures h.is.slot))
    h.is.slot refl refl held (c.close_ended.ensures.runs (g.C.Clock.start c.args.clock.now) _ _ _ held.is.active)

pub returns-in_default-clause-runs : goal.returns-in_default-clause-runs
returns-in_default-clause-runs g c = λ nodes s h.
    turns_as g.K.DeskCalls.leads (g.C.Clock.start c.args.clock.now) _ (tried_plan c.args.setup.now s c.args.duties.now c.args.ends.now c.args.tasks.now c.args.reached) _ _ _ _
    (tried_now c.args.setup.now s c.args.duties.now c.args.ends.now c.args.tasks.now c.args.reached
    (missed_so c.args.setup.now.genesis_time c.args.held.now.slot c.again_start-start.result s.slot c.args.reached again_start c.is_missed.result false c.is_missed.ensures c.if-is_missed.false c.again_start-start.ensures h.is.slot))
    (tasks_short g.K.DeskCalls.leads (g.C.Clock.start c.args.clock.now) _ s (work_of c.args.setup.now s) 0 c.args.tasks.now (λ again. told_plan c.args.setup.now s c.args.duties.now c.args.ends.now (merged c.args.ends.now again)) _ _ _ nodes _ (c.in_default.ensures.works s h))

pub returns-clause-runs : goal.returns-clause-runs
returns-clause-runs g c = λ nodes s h.
    turns_as g.K.DeskCalls.leads (g.C.Clock.start c.args.clock.now) _ (tried_plan c.args.setup.now s c.args.duties.now c.args.ends.now c.args.tasks.now c.args.reached) _ _ _ c.report_merged.result
    (tried_now c.args.setup.now s c.args.duties.now c.args.ends.now c.args.tasks.now c.args.reached
    (missed_so c.args.setup.now.genesis_time c.args.held.now.slot c.again_start-start.result s.slot c.args.reached again_start c.is_missed.result false c.is_missed.ensures c.if-is_missed.false c.again_start-start.ensures h.is.slot))
    (tasks_done g.K.DeskCalls.leads (g.C.Clock.start c.args.clock.now) _ (work_of c.args.setup.now s) 0 c.args.tasks.now (λ again. told_plan c.args.setup.now s c.args.duties.now c.args.ends.now (merged c.args.ends.now again)) _ _ _ nodes _ _ c.in-Ok.again.items c.report_merged.result (c.in-Ok.ensures.works s h)
    (results_as g.K.DeskCalls.leads (g.C.Clock.start c.args.clock.now) _ c.args.setup.now s _ _ c.args.duties.now c.args.ends.now (merged c.args.ends.now c.as_slice-again.result.now) (merged c.args.ends.now c.in-Ok.again.items) c.report_merged.result (ap (λ (l : List Ended). merged c.args.ends.now l) c.as_slice-again.ensures.value) (c.report_merged.ensures.runs nodes s h)))
