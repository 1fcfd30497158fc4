use Rattle.std.proofs.Common.{refl}
use Rattle.desk_machine.specs.declared.call.Outcome.TheVariants as outcome
use Rattle.node_calls.specs.declared.ask.Ask.TheVariants as ask
use Rattle.duty_plans.specs.Ends.{over}
use Rattle.duty_plans.specs.Hands.{Holds}
use Rattle.duty_plans.specs.Reading.{block_of}
use Rattle.duty_plans.specs.Plans.{made_plan, settles, with_got}
use Rattle.duty_sends.proofs.StepLemmas.{runs_ask, runs_settle, runs_dropped, got_is}
use Rattle.duty_workers.proofs.block.ask.Goals as goal

pub returns-in-Given-clause-runs : goal.returns-in-Given-clause-runs
returns-in-Given-clause-runs g c = rw c.in-Given.is (runs_ask g.K.DeskCalls.leads g.met.K.DeskCalls.leads_none _ (Holds c.args.grant) _ _ _ _ (ask.Block c.args.work.now.slot c.in-Given.reveal) _ (λ a. settles c.args.grant outcome.Sent (with_got over (block_of c.args.work.now.altair c.args.row.now a) (λ b. made_plan c.args.work.now c.args.row.now b))) _ (c.args.grant, refl) c.ask-answer.ensures.tries c.ask-answer.ensures.fits
    (runs_settle g.K.DeskCalls.leads g.met.K.DeskCalls.leads_none _ _ _ _ _ c.args.grant outcome.Sent _ _ refl c.settle.ensures.settled
    (got_is g.K.DeskCalls.leads g.met.K.DeskCalls.leads_none _ _ (λ b. made_plan c.args.work.now c.args.row.now b) _ _ _ c.block_in.ensures c.publish.ensures.runs)))

pub returns-in-Failed-clause-runs : goal.returns-in-Failed-clause-runs
returns-in-Failed-clause-runs g c = rw c.in-Failed.is (runs_dropped g.K.DeskCalls.leads g.met.K.DeskCalls.leads_none _ _ _ _ c.args.grant _ _ c.settle-in-Failed.ensures.settled c.left_by.ensures)

pub returns-in-Nothing-clause-runs : goal.returns-in-Nothing-clause-runs
returns-in-Nothing-clause-runs g c = rw c.in-Nothing.is (runs_dropped g.K.DeskCalls.leads g.met.K.DeskCalls.leads_none _ _ _ _ c.args.grant _ _ c.settle-in-Nothing.ensures.settled tt)
