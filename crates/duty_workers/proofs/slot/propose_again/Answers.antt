use Rattle.call_plans.proofs.PathLemmas.{carries_cut}
use Rattle.duty_plans.specs.Steps.{Fits}
use Rattle.duty_plans.specs.Seats.{Does}
use Rattle.duty_workers.proofs.SlotLemmas.{made_as}
use Rattle.duty_workers.proofs.slot.propose_again.Goals as goal

pub returns-in_default-clause-runs : goal.returns-in_default-clause-runs
returns-in_default-clause-runs g c = carries_cut Fits (Does g.K.DeskCalls.leads) _ _

pub returns-clause-runs : goal.returns-clause-runs
returns-clause-runs g c = made_as g.K.DeskCalls.leads c.args.work.now c.args.row.now c.in-Ok.copy c.args.block.now _ _ _ c.in-Ok.ensures c.propose.ensures.runs
