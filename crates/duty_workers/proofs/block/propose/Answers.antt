use Rattle.std.proofs.Common.{refl}
use Rattle.desk_machine.specs.declared.call.DeskCall.TheVariants as call
use Rattle.duty_plans.specs.declared.ended.Unsent.TheVariants as granted
use Rattle.duty_plans.specs.Ends.{barred}
use Rattle.duty_plans.specs.Messages.{block_post, block_request}
use Rattle.duty_plans.specs.Plans.{granted_plan}
use Rattle.duty_sends.proofs.StepLemmas.{runs_leave}
use Rattle.duty_workers.proofs.block.propose.Goals as goal

pub returns-clause-runs : goal.returns-clause-runs
returns-clause-runs g c = rw (← c.message_of.ensures) (runs_leave g.K.DeskCalls.leads g.met.K.DeskCalls.leads_none _ _ _ _ _ (barred (granted.Block c.args.block)) (call.Propose c.args.row.now.pubkey c.message_of.result c.args.work.now.moment) c.call-reply.result _ (λ x. granted_plan (granted.Block c.args.block) (block_request c.args.work.now c.args.block) (block_post c.args.block) x) _ c.call-reply.ensures.leads refl refl c.call-reply.ensures.kind c.call-reply.ensures.granted c.grant_in.ensures c.sign.ensures.runs)
