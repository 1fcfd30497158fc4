use Rattle.std.proofs.Common.{◌∙◌, refl}
use Rattle.call_plans.proofs.PathLemmas.{carries_cut}
use Rattle.duty_turns.specs.TurnSteps.{Does, Fits}
use Rattle.duty_work.proofs.RunLemmas.{closing}
use Rattle.duty_work.proofs.closing.close_ended.Goals as goal

pub returns-in_default-clause-runs : goal.returns-in_default-clause-runs
returns-in_default-clause-runs g c = λ start lanes nodes s active. carries_cut Fits (Does g.K.DeskCalls.leads start) _ _

pub returns-clause-runs : goal.returns-clause-runs
returns-clause-runs g c = λ start lanes nodes s active. closing g.K.DeskCalls.leads start c.args.setup.now s _ _ c.args.slot c.args.duties.now _ c.as_slice-results.result.now _ _ refl (c.as_slice-results.ensures.value ∙ c.in-Ok.ensures) (c.close.ensures.runs start lanes nodes s active)
