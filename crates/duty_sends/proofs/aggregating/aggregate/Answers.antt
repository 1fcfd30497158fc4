use Rattle.std.proofs.Common.{refl}
use Rattle.node_calls.specs.declared.ask.Ask.TheVariants as ask
use Rattle.duty_plans.specs.Ends.{over}
use Rattle.duty_plans.specs.Hands.{Free}
use Rattle.duty_plans.specs.Messages.{aggregate_message}
use Rattle.duty_plans.specs.Plans.{gathered_plan, with_got}
use Rattle.duty_plans.specs.Reading.{aggregate_of}
use Rattle.duty_sends.proofs.StepLemmas.{runs_ask, got_is}
use Rattle.duty_sends.proofs.aggregating.aggregate.Goals as goal

pub returns-clause-runs : goal.returns-clause-runs
returns-clause-runs g c = rw (← c.details_root.ensures) (runs_ask g.K.DeskCalls.leads g.met.K.DeskCalls.leads_none _ Free _ _ _ _ (ask.Aggregate c.details_root.result c.args.work.now.slot) _ (λ a. with_got over (aggregate_of c.args.details.now a) (λ x. gathered_plan c.args.work.now c.args.row.now (aggregate_message c.args.row.now c.args.proof x))) _ refl c.ask-answer.ensures.tries c.ask-answer.ensures.fits
    (got_is g.K.DeskCalls.leads g.met.K.DeskCalls.leads_none _ _ (λ x. gathered_plan c.args.work.now c.args.row.now (aggregate_message c.args.row.now c.args.proof x)) _ _ _ c.aggregate_in.ensures c.publish.ensures.runs))
