use Rattle.std.proofs.Common.{◌∙◌}
use Rattle.duty_work.proofs.RunLemmas.{results_as, short}
use Rattle.duty_work.proofs.aggregate.report_ended.Goals as goal

pub returns-in_default-clause-runs : goal.returns-in_default-clause-runs
returns-in_default-clause-runs g c = λ nodes s h. short g.K.DeskCalls.leads (g.C.Clock.start c.args.clock.now) _ _ s _

pub returns-clause-runs : goal.returns-clause-runs
returns-clause-runs g c = λ nodes s h.
    results_as g.K.DeskCalls.leads (g.C.Clock.start c.args.clock.now) _ c.args.setup.now s _ _ c.args.duties.now c.args.ends.now _ _ c.write_results.result (c.as_slice-results.ensures.value ∙ c.in-Ok.ensures) (c.write_results.ensures.runs nodes s h)
