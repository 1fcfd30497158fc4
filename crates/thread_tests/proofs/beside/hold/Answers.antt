use Rattle.thread_tests.proofs.beside.hold.Goals as goal

pub returns-clause-led : goal.returns-clause-led
returns-clause-led g c = (_, g.met.K.DeskCalls.leads_more _ _ _ _ _ c.call.ensures.leads c.call-2.ensures.leads)
