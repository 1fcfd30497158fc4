use Rattle.std.proofs.Common.{refl}
use Rattle.call_plans.proofs.PathLemmas.{carries_end}
use Rattle.duty_plans.specs.Steps.{Fits}
use Rattle.duty_plans.specs.declared.ended.Unsent.TheVariants as granted
use Rattle.duty_plans.specs.Ends.{left_by}
use Rattle.duty_plans.specs.Seats.{Does}
use Rattle.duty_plans.specs.Plans.{revealed_plan, under}
use Rattle.duty_plans.specs.Reading.{signature_of}
use Rattle.duty_sends.proofs.StepLemmas.{runs_reveal, under_is}
use Rattle.duty_workers.proofs.block.reveal.Goals as goal

pub returns-in-Given-clause-runs : goal.returns-in-Given-clause-runs
returns-in-Given-clause-runs g c = rw (c.in-Given.is, ← c.reveal_request.ensures) (runs_reveal g.K.DeskCalls.leads g.met.K.DeskCalls.leads_none _ _ _ _ _ c.in-Given.grant _ _ (λ s. under (left_by granted.Reveal) c.in-Given.grant (signature_of s) (λ x. revealed_plan c.args.work.now c.args.row.now c.in-Given.grant x)) _ c.sign_plain-reply.ensures.told c.sign_plain-reply.ensures.later c.sign_plain-reply.ensures.fault c.sign_plain-reply.ensures.denials c.sign_plain-reply.ensures.denied
    (under_is g.K.DeskCalls.leads g.met.K.DeskCalls.leads_none (left_by granted.Reveal) c.in-Given.grant _ _ (λ x. revealed_plan c.args.work.now c.args.row.now c.in-Given.grant x) _ _ _ c.signature_in.ensures c.ask.ensures.runs))

pub returns-in-Failed-clause-runs : goal.returns-in-Failed-clause-runs
returns-in-Failed-clause-runs g c = rw c.in-Failed.is (carries_end Fits (Does g.K.DeskCalls.leads) _ _ _ c.over.ensures)

pub returns-in-Nothing-clause-runs : goal.returns-in-Nothing-clause-runs
returns-in-Nothing-clause-runs g c = rw c.in-Nothing.is (carries_end Fits (Does g.K.DeskCalls.leads) _ _ _ tt)
