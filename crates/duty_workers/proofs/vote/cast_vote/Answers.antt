use Rattle.std.proofs.Common.{refl}
use Rattle.node_calls.specs.declared.ask.Ask.TheVariants as ask
use Rattle.duty_plans.specs.Ends.{over}
use Rattle.duty_plans.specs.Hands.{Free}
use Rattle.duty_plans.specs.Reading.{vote_of}
use Rattle.duty_plans.specs.Plans.{voted_plan, with_got}
use Rattle.duty_sends.proofs.StepLemmas.{runs_ask, got_is}
use Rattle.duty_workers.proofs.vote.cast_vote.Goals as goal

pub returns-clause-runs : goal.returns-clause-runs
returns-clause-runs g c = runs_ask g.K.DeskCalls.leads g.met.K.DeskCalls.leads_none _ Free _ _ _ _ (ask.Data c.args.work.now.slot c.args.row.now.committee_index) _ (λ a. with_got over (vote_of c.args.row.now a) (λ d. voted_plan c.args.work.now c.args.row.now d)) _ refl c.ask-answer.ensures.tries c.ask-answer.ensures.fits
    (got_is g.K.DeskCalls.leads g.met.K.DeskCalls.leads_none _ _ (λ d. voted_plan c.args.work.now c.args.row.now d) _ _ _ c.vote_in.ensures c.vote_on.ensures.runs)
