use Rattle.std.proofs.Common.{◌≡◌, ◌++◌, drop}
use Rattle.duty_plans.specs.Choices.{choose_tasks}
use Rattle.duty_plans.proofs.choices.choose_tasks.Given as goal

abbrev pub invariant-duties : goal.invariant-duties
invariant-duties l = l.tasks.items ++ choose_tasks (drop l.i l.duties) (drop l.i l.ended) ≡ choose_tasks l.duties l.ended
