use Rattle.std.proofs.Common.{refl}
use Rattle.desk_machine.specs.declared.call.DeskCall.TheVariants as call
use Rattle.duty_plans.specs.Ends.{over}
use Rattle.duty_plans.specs.Plans.{aggregated_plan}
use Rattle.duty_sends.proofs.StepLemmas.{runs_leave}
use Rattle.duty_sends.proofs.aggregating.ask_leave.Goals as goal

pub returns-clause-runs : goal.returns-clause-runs
returns-clause-runs g c = runs_leave g.K.DeskCalls.leads g.met.K.DeskCalls.leads_none _ _ _ _ _ over (call.Allow c.args.row.now.pubkey c.args.work.now.moment) c.call-reply.result _ (λ x. aggregated_plan c.args.work.now c.args.message x) _ c.call-reply.ensures.leads refl refl c.call-reply.ensures.kind c.call-reply.ensures.granted c.grant_in.ensures c.sign.ensures.runs
