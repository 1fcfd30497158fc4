use Rattle.journal_trials.proofs.desks.push_call.Goals as goal

pub returns-in_err-call-clause-led : goal.returns-in_err-call-clause-led
returns-in_err-call-clause-led g c = (_, g.met.K.DeskCalls.leads_none _)
