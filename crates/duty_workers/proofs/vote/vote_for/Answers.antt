use Rattle.std.proofs.Common.{refl}
use Rattle.call_plans.proofs.PathLemmas.{carries_cut}
use Rattle.desk_machine.specs.declared.call.DeskCall.TheVariants as call
use Rattle.duty_plans.specs.declared.ended.Unsent.TheVariants as granted
use Rattle.duty_plans.specs.Ends.{barred}
use Rattle.duty_plans.specs.Messages.{vote_post, vote_request}
use Rattle.duty_plans.specs.Plans.{granted_plan}
use Rattle.duty_plans.specs.Steps.{Fits}
use Rattle.duty_plans.specs.Seats.{Does}
use Rattle.duty_sends.proofs.StepLemmas.{runs_leave}
use Rattle.duty_workers.proofs.vote.vote_for.Goals as goal

pub returns-in_default-clause-runs : goal.returns-in_default-clause-runs
returns-in_default-clause-runs g c = carries_cut Fits (Does g.K.DeskCalls.leads) _ _

pub returns-clause-runs : goal.returns-clause-runs
returns-clause-runs g c = rw (← c.vote_message.ensures) (runs_leave g.K.DeskCalls.leads g.met.K.DeskCalls.leads_none _ _ _ _ _ (barred (granted.Vote c.args.details)) (call.Propose c.args.row.now.pubkey c.vote_message.result c.args.work.now.moment) c.call-reply.result _ (λ x. granted_plan (granted.Vote c.args.details) (vote_request c.args.work.now c.args.details) (vote_post c.args.row.now c.args.details) x) _ c.call-reply.ensures.leads refl refl c.call-reply.ensures.kind c.call-reply.ensures.granted c.grant_in.ensures c.sign.ensures.runs)
