use Rattle.std.proofs.Common.{refl}
use Rattle.call_plans.proofs.PathLemmas.{carries_end}
use Rattle.duty_plans.specs.Steps.{Fits}
use Rattle.duty_plans.specs.Seats.{Does}
use Rattle.duty_plans.specs.declared.ended.Unsent.TheVariants as granted
use Rattle.duty_plans.specs.Ends.{left_by}
use Rattle.duty_plans.specs.Messages.{vote_post}
use Rattle.duty_plans.specs.Plans.{post_plan, under}
use Rattle.duty_plans.specs.Reading.{signature_of}
use Rattle.duty_sends.proofs.StepLemmas.{ends_as, runs_sign, under_is}
use Rattle.duty_workers.proofs.vote.sign.Goals as goal

pub returns-in-Given-clause-runs : goal.returns-in-Given-clause-runs
returns-in-Given-clause-runs g c = rw (c.in-Given.is, ← c.request_of.ensures) (runs_sign g.K.DeskCalls.leads g.met.K.DeskCalls.leads_none _ _ _ _ _ c.in-Given.grant _ _ (λ s. under (left_by (granted.Vote c.args.details)) c.in-Given.grant (signature_of s) (λ x. post_plan (left_by (granted.Vote c.args.details)) c.in-Given.grant (vote_post c.args.row.now c.args.details x))) _ (rw c.in-Given.is at c.requires.message) c.sign-reply.ensures.told c.sign-reply.ensures.later c.sign-reply.ensures.fault c.sign-reply.ensures.denials c.sign-reply.ensures.denied
    (under_is g.K.DeskCalls.leads g.met.K.DeskCalls.leads_none (left_by (granted.Vote c.args.details)) c.in-Given.grant _ _ (λ x. post_plan (left_by (granted.Vote c.args.details)) c.in-Given.grant (vote_post c.args.row.now c.args.details x)) _ _ _ c.signature_in.ensures (ends_as g.K.DeskCalls.leads g.met.K.DeskCalls.leads_none _ _ _ _ _ c.left_of.ensures (c.post-posted.ensures.runs _ (granted.Vote c.args.details)))))

pub returns-in-Failed-clause-runs : goal.returns-in-Failed-clause-runs
returns-in-Failed-clause-runs g c = rw c.in-Failed.is (carries_end Fits (Does g.K.DeskCalls.leads) _ _ _ c.barred.ensures)

pub returns-in-Nothing-clause-runs : goal.returns-in-Nothing-clause-runs
returns-in-Nothing-clause-runs g c = rw c.in-Nothing.is (carries_end Fits (Does g.K.DeskCalls.leads) _ _ _ tt)
