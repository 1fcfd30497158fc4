use Rattle.std.proofs.Common.{Some}
use Rattle.desk_machine.specs.declared.call.DeskCall.TheVariants as call
use Rattle.sign_proxy.specs.Plans.{signs}
use Rattle.sign_proxy.proofs.EndLemmas.{ends_granted, ends_refused, granted_same, unsigned_granted, unsigned_settles}
use Rattle.sign_proxy.proofs.signing.propose.Goals as goal

pub returns-in-Granted-clause-ends : goal.returns-in-Granted-clause-ends
returns-in-Granted-clause-ends g c =
    ends_granted g.K.DeskCalls.leads _ _ _ _ (call.Propose c.args.key c.args.message c.args.now) c.in-Granted.grant (signs c.args.request.now) _ c.in-Granted.ensures.leads c.in-Granted.ensures.kind c.sign.ensures.ends

pub returns-in-Granted-clause-granted : goal.returns-in-Granted-clause-granted
returns-in-Granted-clause-granted g c = granted_same c.args.key (Some c.args.message) c.in-Granted.grant _ c.sign.ensures.granted c.in-Granted.ensures.granted.0 c.in-Granted.ensures.granted.1

pub returns-in_default : goal.returns-in_default
returns-in_default g c = record {
  ready = c.call.ensures.ready;
  settles = unsigned_settles g.K.DeskCalls.allows c.call.new.self _ _ c.without_grant.ensures.unsigned;
  status = c.without_grant.ensures.status;
  granted = unsigned_granted c.args.key (Some c.args.message) _ _ c.without_grant.ensures.unsigned;
  ends = ends_refused g.K.DeskCalls.leads _ _ _ (call.Propose c.args.key c.args.message c.args.now) c.call.result (signs c.args.request.now) _ c.call.ensures.leads c.call.ensures.kind c.in_default.not-Granted c.without_grant.ensures.unsigned;
}
