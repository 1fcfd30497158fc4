-- What is done in a slot, each with its own steps and its end.
use Rattle.std.proofs.Common.{◌≡◌, List, [], ◌∷◌, ◌++◌, Some, refl, sym, ◌∙◌, append_assoc, subst}
use Rattle.std.proofs.lemmas.List.{append-nil}
use Rattle.call_plans.specs.Plans.{Follows, each_plan}
use Rattle.call_plans.proofs.PlanLemmas.{follows_split}
use Rattle.duty_plans.specs.declared.ended.Ended.{Ended}
use Rattle.duty_plans.specs.declared.task.Task.{Task}
use Rattle.duty_plans.specs.declared.work.SlotWork.{SlotWork}
use Rattle.duty_plans.specs.Plans.{slot_plan, task_plan}
use Rattle.duty_plans.specs.Slots.{EachDone}
use Rattle.duty_plans.specs.Steps.{DutyStep, Fits}

-- after these ends come those of the tasks
record DoneBehind (work : SlotWork) (got : List Ended) (ds : List Task) (steps : List DutyStep) (rs : List Ended) : Type 0 where
  own : List Ended
  are : rs ≡ got ++ own
  each : EachDone work ds steps own

done_behind : (work : SlotWork) (got : List Ended) (ds : List Task) (steps : List DutyStep) (rs : List Ended)
    → Follows Fits (each_plan (λ d. task_plan work d) got ds) steps (Some rs) → DoneBehind work got ds steps rs
done_behind work got [] [] rs f = record { own = []; are = f ∙ sym (append-nil got); each = refl }
done_behind work got [] (s ∷ steps) rs f = absurd f
done_behind work got (d ∷ ds) steps rs f =
    let split = follows_split Fits (task_plan work d) (λ x. each_plan (λ e. task_plan work e) (got ++ x ∷ []) ds) steps rs f in
    let rest = done_behind work (got ++ split.2 ∷ []) ds split.1 rs split.5 in
    record {
      own = split.2 ∷ rest.own;
      are = rest.are ∙ append_assoc got (split.2 ∷ []) rest.own;
      each = (split.0, split.1, split.3, split.4, rest.each);
    }

pub each_done : (work : SlotWork) (ds : List Task) (steps : List DutyStep) (rs : List Ended) → Follows Fits (slot_plan work ds) steps (Some rs) → EachDone work ds steps rs
each_done work ds steps rs f = let all = done_behind work [] ds steps rs f in subst (λ (l : List Ended). EachDone work ds steps l) (sym all.are) all.each
