use Rattle.sign_proxy.proofs.EndLemmas.{ends_signs_plain}
use Rattle.sign_proxy.proofs.signing.sign_plain.Goals as goal

pub returns-clause-ends : goal.returns-clause-ends
returns-clause-ends g c =
    let s = c.sign_plain-reply.ensures in
    ends_signs_plain g.K.DeskCalls.leads g.met.K.DeskCalls.leads_none _ _ _ _ c.args.grant c.args.request.now c.sign_plain-reply.result _ s.told (s.later, s.fault, s.denials, s.denied) (c.end_signing.ensures.ends _)
