use Rattle.duty_sends.proofs.StepLemmas.{runs_sent}
use Rattle.duty_sends.proofs.sending.send.Goals as goal

pub returns-clause-runs : goal.returns-clause-runs
returns-clause-runs g c = λ s ends. runs_sent g.K.DeskCalls.leads g.met.K.DeskCalls.leads_none ends _ _ s _ _ c.args.grant _ _ _ _ c.post-taken.ensures.tries c.settle.ensures.settled c.posted_in.ensures (c.end_of.ensures ends)
