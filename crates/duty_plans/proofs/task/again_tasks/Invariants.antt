use Rattle.std.proofs.Common.{◌≡◌, ◌++◌, drop}
use Rattle.duty_plans.specs.Tasks.{again_tasks}
use Rattle.duty_plans.proofs.task.again_tasks.Given as goal

abbrev pub invariant-duties : goal.invariant-duties
invariant-duties l = l.tasks.items ++ again_tasks (drop l.i l.duties) (drop l.i l.ended) ≡ again_tasks l.duties l.ended
