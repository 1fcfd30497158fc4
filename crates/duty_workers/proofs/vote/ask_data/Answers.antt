use Rattle.std.proofs.Common.{refl}
use Rattle.node_calls.specs.declared.ask.Ask.TheVariants as ask
use Rattle.call_plans.specs.Plans.{Done}
use Rattle.call_plans.proofs.PathLemmas.{carries_end}
use Rattle.duty_plans.specs.Ends.{over}
use Rattle.duty_plans.specs.Hands.{Free}
use Rattle.duty_plans.specs.Reading.{vote_of}
use Rattle.duty_plans.specs.Plans.{said, with_got}
use Rattle.duty_plans.specs.Seats.{Does}
use Rattle.duty_plans.specs.Steps.{Fits}
use Rattle.duty_sends.proofs.StepLemmas.{runs_ask, got_is}
use Rattle.duty_workers.proofs.vote.ask_data.Goals as goal

pub returns : goal.returns
returns g c = record {
  runs = λ desk s. runs_ask g.K.DeskCalls.leads g.met.K.DeskCalls.leads_none desk Free s _ _ _ (ask.Data c.args.work.now.slot c.args.row.now.committee_index) _ (λ a. with_got over (vote_of c.args.row.now a) (λ d. Done (said d))) _ refl c.ask-answer.ensures.tries c.ask-answer.ensures.fits
      (got_is g.K.DeskCalls.leads g.met.K.DeskCalls.leads_none _ _ (λ d. Done (said d)) _ _ _ c.vote_in.ensures (carries_end Fits (Does g.K.DeskCalls.leads) _ _ _ c.end_of.ensures));
}
