-- What is done in a slot, each with its own steps and its end.
use Rattle.std.specs.Prelude.{◌≡◌, List, [], ◌∷◌, ◌++◌, Some}
use Rattle.call_plans.specs.Plans.{Follows}
use Rattle.duty_plans.specs.declared.ended.Ended.{Ended}
use Rattle.duty_plans.specs.declared.task.Task.{Task}
use Rattle.duty_plans.specs.declared.work.SlotWork.{SlotWork}
use Rattle.duty_plans.specs.Plans.{task_plan}
use Rattle.duty_plans.specs.Steps.{DutyStep, Fits}

-- the steps are those of the tasks, one after another; each task has one end, which is that of its own steps
abbrev pub EachDone : SlotWork → List Task → List DutyStep → List Ended → Type 0
EachDone work [] steps [] = steps ≡ []
EachDone work (t ∷ tasks) steps (e ∷ ends) = (own : List DutyStep) × (rest : List DutyStep) × (steps ≡ own ++ rest) × Follows Fits (task_plan work t) own (Some e) × EachDone work tasks rest ends
EachDone work _ steps _ = ⊥
