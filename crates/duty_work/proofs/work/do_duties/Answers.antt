use Rattle.std.proofs.Common.{◌≡◌, ◌∙◌, List, None, true, sym, subst}
use Rattle.duty_plans.specs.declared.task.Task.{Task}
use Rattle.duty_workers.specs.Places.{are_placed_tasks}
use Rattle.duty_work.proofs.PlacedLemmas.{fresh_placed}
use Rattle.duty_work.proofs.RunLemmas.{fresh_done, fresh_short}
use Rattle.duty_work.proofs.work.do_duties.Goals as goal

pub do_tasks-requires-clause-places : goal.do_tasks-requires-clause-places
do_tasks-requires-clause-places g c = λ lifetimes outlives. subst (λ (l : List Task). are_placed_tasks l ≡ true) (sym (c.as_slice.ensures.value ∙ c.in-Ok.ensures)) (fresh_placed c.args.duties.now c.requires.places)

pub returns-in_default-clause-works : goal.returns-in_default-clause-works
returns-in_default-clause-works g c = λ s h. fresh_short g.K.DeskCalls.leads None _ _ c.args.duties.now c.args.lanes.now _ c.requires.some

pub returns-clause-works : goal.returns-clause-works
returns-clause-works g c = λ s h. fresh_done g.K.DeskCalls.leads None _ _ c.as_slice.result.now _ _ _ _ (c.as_slice.ensures.value ∙ c.in-Ok.ensures) (c.do_tasks.ensures.works s h)
