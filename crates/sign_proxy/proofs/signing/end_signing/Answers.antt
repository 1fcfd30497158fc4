use Rattle.std.proofs.Common.{refl}
use Rattle.sign_proxy.proofs.EndLemmas.{ends_dropped, ends_signature, unsigned_granted, unsigned_settles}
use Rattle.sign_proxy.proofs.signing.end_signing.Goals as goal

pub returns-in-Signed-clause-ends : goal.returns-in-Signed-clause-ends
returns-in-Signed-clause-ends g c = λ s. ends_signature g.K.DeskCalls.leads _ _ c.args.grant c.in-Signed.signature c.args.reply _ c.in-Signed.is (refl, refl, refl)

pub returns-in_default : goal.returns-in_default
returns-in_default g c = record {
  ready = c.drop_grant.ensures.ready;
  settles = unsigned_settles g.K.DeskCalls.allows c.drop_grant.new.desk _ _ c.without_signature.ensures.unsigned;
  status = c.without_signature.ensures.status;
  granted = unsigned_granted c.args.grant.key c.args.grant.message _ _ c.without_signature.ensures.unsigned;
  ends = λ s. ends_dropped g.K.DeskCalls.leads _ _ s c.args.grant c.args.reply _ c.in_default.not-Signed c.drop_grant.ensures.leads c.without_signature.ensures.unsigned;
}
