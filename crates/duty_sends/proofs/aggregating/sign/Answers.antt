use Rattle.std.proofs.Common.{refl}
use Rattle.call_plans.proofs.PathLemmas.{carries_end}
use Rattle.duty_plans.specs.Ends.{over}
use Rattle.duty_plans.specs.Messages.{aggregate_post}
use Rattle.duty_plans.specs.Plans.{post_plan, under}
use Rattle.duty_plans.specs.Reading.{signature_of}
use Rattle.duty_plans.specs.Seats.{Does}
use Rattle.duty_plans.specs.Steps.{Fits}
use Rattle.duty_sends.proofs.StepLemmas.{runs_reveal, under_is}
use Rattle.duty_sends.proofs.AggregateLemmas.{message_is}
use Rattle.duty_sends.proofs.aggregating.sign.Goals as goal

pub returns-in-Given-clause-runs : goal.returns-in-Given-clause-runs
returns-in-Given-clause-runs g c = rw (c.in-Given.is, ← c.request_of-request.ensures) (runs_reveal g.K.DeskCalls.leads g.met.K.DeskCalls.leads_none _ _ _ _ _ c.in-Given.grant _ _ (λ s. under over c.in-Given.grant (signature_of s) (λ x. post_plan over c.in-Given.grant (aggregate_post c.args.message x))) _ c.sign_plain-reply.ensures.told c.sign_plain-reply.ensures.later c.sign_plain-reply.ensures.fault c.sign_plain-reply.ensures.denials c.sign_plain-reply.ensures.denied
    (under_is g.K.DeskCalls.leads g.met.K.DeskCalls.leads_none over c.in-Given.grant _ _ (λ x. post_plan over c.in-Given.grant (aggregate_post c.args.message x)) _ _ _ c.signature_in.ensures
    (message_is g.K.DeskCalls.leads c.args.work.now c.in-Given.grant c.args.message _ _ _ _ _ _ c.request_of-request.ensures c.message_back.ensures (c.post.ensures.runs _))))

pub returns-in-Failed-clause-runs : goal.returns-in-Failed-clause-runs
returns-in-Failed-clause-runs g c = rw c.in-Failed.is (carries_end Fits (Does g.K.DeskCalls.leads) _ _ _ c.over.ensures)

pub returns-in-Nothing-clause-runs : goal.returns-in-Nothing-clause-runs
returns-in-Nothing-clause-runs g c = rw c.in-Nothing.is (carries_end Fits (Does g.K.DeskCalls.leads) _ _ _ tt)
