use Rattle.thread_tests.proofs.beside.close_after.Goals as goal

pub returns-clause-led : goal.returns-clause-led
returns-clause-led g c = (_, g.met.K.DeskCalls.leads_more _ _ _ _ _ c.call.ensures.leads c.close_idle.ensures.made.2)
