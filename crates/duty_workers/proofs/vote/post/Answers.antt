use Rattle.std.proofs.Common.{refl}
use Rattle.duty_plans.specs.Ends.{left_by}
use Rattle.duty_sends.proofs.StepLemmas.{runs_dropped}
use Rattle.duty_workers.proofs.vote.post.Goals as goal

pub returns-in-Given-clause-runs : goal.returns-in-Given-clause-runs
returns-in-Given-clause-runs g c = λ s unsent. rw (c.in-Given.is, ← c.requires.bits) (c.send.ensures.runs s (left_by unsent))

pub returns-in-Failed-clause-runs : goal.returns-in-Failed-clause-runs
returns-in-Failed-clause-runs g c = λ s unsent. rw c.in-Failed.is (runs_dropped g.K.DeskCalls.leads g.met.K.DeskCalls.leads_none _ _ s _ c.args.grant _ _ c.settle.ensures.settled refl)

pub returns-in-Nothing-clause-runs : goal.returns-in-Nothing-clause-runs
returns-in-Nothing-clause-runs g c = λ s unsent. rw c.in-Nothing.is (runs_dropped g.K.DeskCalls.leads g.met.K.DeskCalls.leads_none _ _ s _ c.args.grant _ _ c.settle-in-Nothing.ensures.settled tt)
