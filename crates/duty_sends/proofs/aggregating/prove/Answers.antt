use Rattle.std.proofs.Common.{[], refl, subst}
use Rattle.call_plans.specs.Plans.{Done, Follows}
use Rattle.call_plans.proofs.PathLemmas.{carries_end}
use Rattle.desk_machine.specs.declared.call.Outcome.TheVariants as outcome
use Rattle.std.specs.Result.{result_ok}
use Rattle.edge_kit.specs.declared.bytes.Sig.{Sig}
use Rattle.duty_plans.specs.declared.got.Got.{Got}
use Rattle.duty_plans.specs.Ends.{over}
use Rattle.duty_plans.specs.Plans.{chosen_by, settles, with_got}
use Rattle.duty_plans.specs.Reading.{signature_of}
use Rattle.duty_plans.specs.Seats.{Does}
use Rattle.duty_plans.specs.Steps.{Fits}
use Rattle.duty_sends.proofs.StepLemmas.{runs_dropped, runs_reveal}
use Rattle.duty_sends.proofs.aggregating.prove.Goals as goal

pub returns-in-Given-clause-runs : goal.returns-in-Given-clause-runs
returns-in-Given-clause-runs g c = λ ns. rw (c.in-Given.is, ← c.slot_request.ensures) (runs_reveal g.K.DeskCalls.leads g.met.K.DeskCalls.leads_none _ _ _ ns _ c.in-Given.grant _ _ (λ s. settles c.in-Given.grant outcome.Dropped (with_got over (signature_of s) (λ proof. Done (chosen_by c.args.row.now c.args.details proof)))) _ c.sign_plain-reply.ensures.told c.sign_plain-reply.ensures.later c.sign_plain-reply.ensures.fault c.sign_plain-reply.ensures.denials c.sign_plain-reply.ensures.denied
    (runs_dropped g.K.DeskCalls.leads g.met.K.DeskCalls.leads_none _ _ _ ns c.in-Given.grant _ _ c.settle.ensures.settled
    (subst (λ (x : Got Sig). Follows Fits (with_got over x (λ proof. Done (chosen_by c.args.row.now c.args.details proof))) [] (result_ok c.chosen_by.result)) c.signature_in.ensures c.chosen_by.ensures)))

pub returns-in-Failed-clause-runs : goal.returns-in-Failed-clause-runs
returns-in-Failed-clause-runs g c = λ ns. rw c.in-Failed.is (carries_end Fits (Does g.K.DeskCalls.leads) _ _ _ c.over.ensures)

pub returns-in-Nothing-clause-runs : goal.returns-in-Nothing-clause-runs
returns-in-Nothing-clause-runs g c = λ ns. rw c.in-Nothing.is (carries_end Fits (Does g.K.DeskCalls.leads) _ _ _ tt)
