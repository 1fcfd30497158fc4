use Rattle.journal_trials.proofs.seats.push_any.Goals as goal

pub returns-then-is_empty-clause-led : goal.returns-then-is_empty-clause-led
returns-then-is_empty-clause-led g c = (_, g.met.K.DeskCalls.leads_none _)
