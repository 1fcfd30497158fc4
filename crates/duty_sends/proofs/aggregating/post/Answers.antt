use Rattle.std.proofs.Common.{refl}
use Rattle.duty_plans.specs.Ends.{over}
use Rattle.duty_sends.proofs.StepLemmas.{ends_as, runs_dropped}
use Rattle.duty_sends.proofs.aggregating.post.Goals as goal

pub returns-in-Given-clause-runs : goal.returns-in-Given-clause-runs
returns-in-Given-clause-runs g c = λ s. rw c.in-Given.is (ends_as g.K.DeskCalls.leads g.met.K.DeskCalls.leads_none _ _ _ _ _ c.ended_by.ensures (c.send.ensures.runs s over))

pub returns-in-Failed-clause-runs : goal.returns-in-Failed-clause-runs
returns-in-Failed-clause-runs g c = λ s. rw c.in-Failed.is (runs_dropped g.K.DeskCalls.leads g.met.K.DeskCalls.leads_none _ _ s _ c.args.grant _ _ c.settle.ensures.settled c.over.ensures)

pub returns-in-Nothing-clause-runs : goal.returns-in-Nothing-clause-runs
returns-in-Nothing-clause-runs g c = λ s. rw c.in-Nothing.is (runs_dropped g.K.DeskCalls.leads g.met.K.DeskCalls.leads_none _ _ s _ c.args.grant _ _ c.settle-in-Nothing.ensures.settled tt)
