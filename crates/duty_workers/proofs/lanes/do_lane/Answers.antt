use Rattle.std.proofs.Common.{◌∙◌, List, ap}
use Rattle.call_plans.proofs.PathLemmas.{carries_cut}
use Rattle.duty_plans.specs.declared.task.Task.{Task}
use Rattle.duty_plans.specs.Seats.{Does}
use Rattle.duty_plans.specs.Steps.{Fits}
use Rattle.duty_workers.specs.Places.{are_placed_tasks, is_placed_task}
use Rattle.duty_workers.proofs.DealLemmas.{dealt_all}
use Rattle.duty_workers.proofs.lanes.do_lane.Goals as goal

pub returns-in_default-clause-did : goal.returns-in_default-clause-did
returns-in_default-clause-did g c = carries_cut Fits (Does g.K.DeskCalls.leads) _ _

pub run_slot-done-requires-clause-places : goal.run_slot-done-requires-clause-places
run_slot-done-requires-clause-places g c =
    ap (λ (ts : List Task). are_placed_tasks ts) (c.as_slice.ensures.value ∙ c.in-Ok.ensures) ∙ dealt_all is_placed_task c.args.count c.args.i c.args.place c.args.tasks.now c.requires.places
