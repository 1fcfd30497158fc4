use Rattle.sign_proxy.proofs.EndLemmas.{ends_signs}
use Rattle.sign_proxy.proofs.signing.sign.Goals as goal

pub returns-clause-ends : goal.returns-clause-ends
returns-clause-ends g c =
    let s = c.sign-reply.ensures in
    ends_signs g.K.DeskCalls.leads g.met.K.DeskCalls.leads_none _ _ _ _ c.args.grant c.args.request.now c.sign-reply.result _ c.requires.message s.told (s.later, s.fault, s.denials, s.denied) (c.end_signing.ensures.ends _)
