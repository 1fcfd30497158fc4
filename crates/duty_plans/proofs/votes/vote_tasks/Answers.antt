use Rattle.duty_plans.specs.Votes.{vote_task}
use Rattle.duty_plans.proofs.EndLemmas.{tasks_end, tasks_more}
use Rattle.duty_plans.proofs.votes.vote_tasks.Goals as goal

pub returns-in_default : goal.returns-in_default
returns-in_default c = tasks_end vote_task c.args.votes.now c.args.asked.now c.votes.i c.votes.tasks.items c.in_default.ensures.lookup.3 c.votes.invariant

pub votes-preserved : goal.votes-preserved
votes-preserved c =
    tasks_more vote_task c.args.votes.now c.args.asked.now c.votes.i _ c.in-Some.one.now c.votes.tasks.items c.keep_vote.new.tasks.items c.votes-test.true c.in-Some.ensures.lookup.3.0 c.in-Some.ensures.lookup.1
    c.in_ok-keep_vote.ensures c.votes.invariant
