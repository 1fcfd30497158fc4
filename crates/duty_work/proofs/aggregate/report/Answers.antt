use Rattle.std.proofs.Common.{◌∙◌}
use Rattle.call_plans.proofs.PathLemmas.{carries_cut}
use Rattle.duty_turns.specs.TurnSteps.{Does, Fits}
use Rattle.duty_work.proofs.RunLemmas.{reports_as}
use Rattle.duty_work.proofs.aggregate.report.Goals as goal

pub returns-in_default-clause-runs : goal.returns-in_default-clause-runs
returns-in_default-clause-runs g c = λ start lanes nodes s active. carries_cut Fits (Does g.K.DeskCalls.leads start) _ _

pub returns-clause-runs : goal.returns-clause-runs
returns-clause-runs g c = λ start lanes nodes s active.
    reports_as g.K.DeskCalls.leads start c.args.setup.now c.args.slot c.args.choices.now s c.as_slice.result.now _ _ _ _ (c.as_slice.ensures.value ∙ c.in-Ok.ensures) (c.write_reports.ensures.runs start lanes nodes s active)
