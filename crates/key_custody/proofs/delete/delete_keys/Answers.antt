use Rattle.client_calls.specs.Steps.{Fits}
use Rattle.client_calls.specs.Seats.{Does}
use Rattle.key_custody.specs.Plans.{statuses_plan, export_plan}
use Rattle.call_plans.proofs.PathLemmas.{carries_on, carries_short}
use Rattle.client_calls.proofs.SeatLemmas.{ran_of}
use Rattle.key_custody.proofs.delete.delete_keys.Goals as goal

pub returns-in_default-clause-runs : goal.returns-in_default-clause-runs
returns-in_default-clause-runs g c = ran_of g.K.DeskCalls.leads g.met.K.DeskCalls.leads_none g.met.K.DeskCalls.leads_more _ _ _ _
    (carries_short Fits (Does g.K.DeskCalls.leads) _ _ (statuses_plan c.args.keys.now) (λ got. export_plan c.args.keys.now got) c.in_default.ensures.runs)

pub returns-clause-runs : goal.returns-clause-runs
returns-clause-runs g c = ran_of g.K.DeskCalls.leads g.met.K.DeskCalls.leads_none g.met.K.DeskCalls.leads_more _ _ _ _
    (carries_on Fits (Does g.K.DeskCalls.leads) _ _ _ (statuses_plan c.args.keys.now) (λ got. export_plan c.args.keys.now got) _ _ c.in-Ok.ensures.runs (c.hand_out.ensures.runs _))
