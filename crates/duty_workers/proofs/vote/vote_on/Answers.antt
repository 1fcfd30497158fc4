use Rattle.std.proofs.Common.{refl}
use Rattle.call_plans.proofs.PathLemmas.{carries_end}
use Rattle.duty_plans.specs.Steps.{Fits}
use Rattle.duty_plans.specs.Seats.{Does}
use Rattle.duty_workers.proofs.vote.vote_on.Goals as goal

pub returns-in-Failed-clause-runs : goal.returns-in-Failed-clause-runs
returns-in-Failed-clause-runs g c = rw c.in-Failed.is (carries_end Fits (Does g.K.DeskCalls.leads) _ _ _ c.over.ensures)

pub returns-in-Nothing-clause-runs : goal.returns-in-Nothing-clause-runs
returns-in-Nothing-clause-runs g c = rw c.in-Nothing.is (carries_end Fits (Does g.K.DeskCalls.leads) _ _ _ tt)
