use Rattle.client_calls.proofs.SeatLemmas.{ran_of}
use Rattle.key_custody.proofs.import.import_keys.Goals as goal

pub returns-in-Some-clause-runs : goal.returns-in-Some-clause-runs
returns-in-Some-clause-runs g c = rw c.in-Some.is (ran_of g.K.DeskCalls.leads g.met.K.DeskCalls.leads_none g.met.K.DeskCalls.leads_more _ _ _ _ c.merge_first.ensures.runs)

pub returns-in-None-clause-runs : goal.returns-in-None-clause-runs
returns-in-None-clause-runs g c = rw c.in-None.is (ran_of g.K.DeskCalls.leads g.met.K.DeskCalls.leads_none g.met.K.DeskCalls.leads_more _ _ _ _ c.treat.ensures.runs)
