use Rattle.std.proofs.Common.{◌≡◌, List, IfOk, subst}
use Rattle.edge_kit.specs.declared.bytes.PubKey.{PubKey}
use Rattle.call_plans.specs.Plans.{Done}
use Rattle.client_calls.proofs.SeatLemmas.{ran_of}
use Rattle.key_custody.specs.Plans.{list_plan}
use Rattle.keymanager_api.proofs.RunLemmas.{ran_then, ran_short, at_most}
use Rattle.proxy_api.specs.Listing.{keys_reply}
use Rattle.proxy_api.proofs.listing.list_public.Goals as goal

pub returns-in-Ok-clause-runs : goal.returns-in-Ok-clause-runs
returns-in-Ok-clause-runs g c = λ s.
    let P : List PubKey → Type 0 = λ keys. IfOk c.keys_reply.result (λ r. r ≡ keys_reply keys) in
    ran_then g.K.DeskCalls.leads _ _ list_plan keys_reply c.in-Ok.keys _
    (ran_of g.K.DeskCalls.leads g.met.K.DeskCalls.leads_none g.met.K.DeskCalls.leads_more _ _ _ _ (c.in-Ok.ensures.runs s))
    (at_most c.keys_reply.result _ (subst P c.as_slice.ensures c.keys_reply.ensures))

pub returns-in-Err-clause-runs : goal.returns-in-Err-clause-runs
returns-in-Err-clause-runs g c = λ s.
    ran_short g.K.DeskCalls.leads _ _ list_plan (λ keys. Done (keys_reply keys))
    (ran_of g.K.DeskCalls.leads g.met.K.DeskCalls.leads_none g.met.K.DeskCalls.leads_more _ _ _ _ (c.in-Err.ensures.runs s))
