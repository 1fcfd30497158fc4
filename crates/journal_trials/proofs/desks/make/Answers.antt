use Rattle.journal_trials.proofs.desks.make.Goals as goal

pub returns-in-Granted-clause-led : goal.returns-in-Granted-clause-led
returns-in-Granted-clause-led g c = (_, g.met.K.DeskCalls.leads_more _ _ _ _ _ c.call.ensures.leads c.settle.ensures.led.1)
