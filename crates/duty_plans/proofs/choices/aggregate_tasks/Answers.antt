use Rattle.std.proofs.Common.{◌≡◌, ◌++◌, subst}
use Rattle.duty_plans.specs.declared.task.Task.{Task}
use Rattle.duty_plans.specs.Choices.{aggregate_of}
use Rattle.duty_plans.proofs.EndLemmas.{tasks_end, tasks_more}
use Rattle.duty_plans.proofs.choices.aggregate_tasks.Goals as goal

pub returns-in_default : goal.returns-in_default
returns-in_default c = tasks_end aggregate_of c.args.choices.now c.args.ended.now c.choices.i c.choices.tasks.items c.in_default.ensures.lookup.3 c.choices.invariant

pub choices-preserved : goal.choices-preserved
choices-preserved c =
    tasks_more aggregate_of c.args.choices.now c.args.ended.now c.choices.i c.index-choices-i.result c.in-Some.one.now c.choices.tasks.items c.keep_aggregate.new.tasks.items c.choices-test.true c.in-Some.ensures.lookup.3.0 c.in-Some.ensures.lookup.1
    (subst (λ (t : Task). c.keep_aggregate.new.tasks.items ≡ c.choices.tasks.items ++ aggregate_of t c.in-Some.one.now) c.index-choices-i.is c.in_ok-keep_aggregate.ensures) c.choices.invariant
