use Rattle.std.proofs.Common.{refl}
use Rattle.call_plans.proofs.PathLemmas.{carries_end}
use Rattle.duty_plans.specs.Steps.{Fits}
use Rattle.duty_plans.specs.Seats.{Does}
use Rattle.duty_plans.specs.declared.ended.Unsent.TheVariants as granted
use Rattle.duty_plans.specs.Ends.{left_by}
use Rattle.duty_plans.specs.Messages.{block_post}
use Rattle.duty_plans.specs.Plans.{post_plan, under}
use Rattle.duty_plans.specs.Reading.{signature_of}
use Rattle.duty_sends.proofs.StepLemmas.{runs_sign, block_is, under_is}
use Rattle.duty_workers.proofs.block.sign.Goals as goal

pub returns-in-Given-clause-runs : goal.returns-in-Given-clause-runs
returns-in-Given-clause-runs g c = rw (c.in-Given.is, ← c.request_of-request.ensures) (runs_sign g.K.DeskCalls.leads g.met.K.DeskCalls.leads_none _ _ _ _ _ c.in-Given.grant _ _ (λ s. under (left_by (granted.Block c.args.block)) c.in-Given.grant (signature_of s) (λ x. post_plan (left_by (granted.Block c.args.block)) c.in-Given.grant (block_post c.args.block x))) _ (rw c.in-Given.is at c.requires.message) c.sign-reply.ensures.told c.sign-reply.ensures.later c.sign-reply.ensures.fault c.sign-reply.ensures.denials c.sign-reply.ensures.denied
    (under_is g.K.DeskCalls.leads g.met.K.DeskCalls.leads_none (left_by (granted.Block c.args.block)) c.in-Given.grant _ _ (λ x. post_plan (left_by (granted.Block c.args.block)) c.in-Given.grant (block_post c.args.block x)) _ _ _ c.signature_in.ensures
    (block_is g.K.DeskCalls.leads g.met.K.DeskCalls.leads_none c.args.work.now c.in-Given.grant c.args.block _ _ _ _ _ _ c.request_of-request.ensures c.block_back.ensures (c.post.ensures.runs _))))

pub returns-in-Failed-clause-runs : goal.returns-in-Failed-clause-runs
returns-in-Failed-clause-runs g c = rw c.in-Failed.is (carries_end Fits (Does g.K.DeskCalls.leads) _ _ _ c.barred.ensures)

pub returns-in-Nothing-clause-runs : goal.returns-in-Nothing-clause-runs
returns-in-Nothing-clause-runs g c = rw c.in-Nothing.is (carries_end Fits (Does g.K.DeskCalls.leads) _ _ _ tt)
