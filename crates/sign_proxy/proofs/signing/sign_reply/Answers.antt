use Rattle.std.proofs.Common.{◌≡◌, Ok, Err, Some, rules}
use Rattle.signing_requests.specs.Refusals.{refusal_reply}
use Rattle.signing_requests.specs.Requests.{asked_of}
use Rattle.sign_proxy.specs.Signing.{reads}
use Rattle.sign_proxy.proofs.EndLemmas.{ends_unsigned}
use Rattle.sign_proxy.proofs.signing.sign_reply.Goals as goal

pub returns-in-Ok-clause-answers : goal.returns-in-Ok-clause-answers
returns-in-Ok-clause-answers g c = reads (Ok c.in-Ok.asked) c.in-Ok.ensures c.sign_asked.ensures.ends c.sign_asked.ensures.granted

pub returns-in-Err-Refused-clause-answers : goal.returns-in-Err-Refused-clause-answers
returns-in-Err-Refused-clause-answers g c =
    let unread : asked_of c.args.identifier.now c.args.genesis.now c.args.body.now ≡ Err c.in-Err-Refused.refusal = search rules in
    reads (Err c.in-Err-Refused.refusal) unread (ends_unsigned g.K.DeskCalls.leads (Some (refusal_reply c.in-Err-Refused.refusal)) _ _ c.refuse.ensures.unsigned) tt
