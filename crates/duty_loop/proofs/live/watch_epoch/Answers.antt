use Rattle.call_plans.proofs.PathLemmas.{carries_cut}
use Rattle.duty_turns.specs.TurnSteps.{Does, Fits}
use Rattle.duty_loop.proofs.LiveLemmas.{epoch_by}
use Rattle.duty_loop.proofs.live.watch_epoch.Goals as goal

pub returns-in_default-clause-runs : goal.returns-in_default-clause-runs
returns-in_default-clause-runs g c = λ start lanes s h. carries_cut Fits (Does g.K.DeskCalls.leads start) _ _

pub returns-in_default-indices_of-clause-runs : goal.returns-in_default-indices_of-clause-runs
returns-in_default-indices_of-clause-runs g c = λ start lanes s h. carries_cut Fits (Does g.K.DeskCalls.leads start) _ _

pub returns-clause-runs : goal.returns-clause-runs
returns-clause-runs g c = λ start lanes s h. epoch_by g.K.DeskCalls.leads g.met.K.DeskCalls.leads_none start c.args.now c.args.epoch c.args.listed.now s _ _ _ c.args.held.now.indices.entries c.in-Ok.keys c.as_slice-missing.result.now c.as_slice-missing.result.now c.in-Ok-indices_of.indices c.in-Ok.ensures c.as_slice-missing.ensures c.as_slice-missing.ensures c.in-Ok-indices_of.ensures h.indices
    (c.ask_live.ensures.runs start lanes s h)
