use Rattle.std.proofs.Common.{◌≡◌, ◌++◌, drop}
use Rattle.duty_plans.specs.Choices.{aggregate_tasks}
use Rattle.duty_plans.proofs.choices.aggregate_tasks.Given as goal

abbrev pub invariant-choices : goal.invariant-choices
invariant-choices l = l.tasks.items ++ aggregate_tasks (drop l.i l.choices) (drop l.i l.ended) ≡ aggregate_tasks l.choices l.ended
