use Rattle.duty_plans.specs.Tasks.{again_of}
use Rattle.duty_plans.proofs.EndLemmas.{tasks_end, tasks_more}
use Rattle.duty_plans.proofs.task.again_tasks.Goals as goal

pub returns-in_default : goal.returns-in_default
returns-in_default c = tasks_end again_of c.args.duties.now c.args.ended.now c.duties.i c.duties.tasks.items c.in_default.ensures.lookup.3 c.duties.invariant

pub duties-preserved : goal.duties-preserved
duties-preserved c =
    tasks_more again_of c.args.duties.now c.args.ended.now c.duties.i _ c.in-Some.one.now c.duties.tasks.items c.keep_again.new.tasks.items c.duties-test.true c.in-Some.ensures.lookup.3.0 c.in-Some.ensures.lookup.1
    c.in_ok-keep_again.ensures c.duties.invariant
