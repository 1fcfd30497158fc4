-- The steps of a task in a lane's steps.
use Rattle.std.proofs.Common.{◌≡◌, ◌⊎◌, inl, inr, ℕ, ◌+◌, ◌%◌, ◌<◌, ◌≤◌, ◌==◌, Bool, true, false, List, [], ◌∷◌, ◌++◌, length, Option, Some, None, refl, sym, ◌∙◌, ap, subst, append_assoc, arith}
use Rattle.std.specs.Prelude.{if◌then◌else◌, Contains}
use Rattle.std.proofs.lemmas.Bool.{cases_order, eq-eqb}
use Rattle.std.proofs.lemmas.Nat.{mod_below}
use Rattle.std.proofs.lemmas.List.Elements.{Contains-append_cases}
use Rattle.protect_record.proofs.MemberLemmas.{contains_cases, contains_first, contains_later, contains_none}
use Rattle.call_plans.specs.Plans.{Follows, each_plan}
use Rattle.call_plans.proofs.PlanLemmas.{follows_cases}
use Rattle.duty_plans.specs.declared.ended.Ended.{Ended}
use Rattle.duty_plans.specs.declared.task.Task.{Task}
use Rattle.duty_plans.specs.declared.work.SlotWork.{SlotWork}
use Rattle.duty_plans.specs.Owning.{AllCall}
use Rattle.duty_plans.specs.Plans.{slot_plan, task_plan}
use Rattle.duty_plans.specs.Slots.{EachDone}
use Rattle.duty_plans.specs.Steps.{DutyCall, DutyStep}
use Rattle.duty_plans.specs.Steps as duties
use Rattle.duty_plans.proofs.SlotLemmas.{each_done}
use Rattle.duty_turns.specs.Lanes.{DidShare, DidShares, dealt}
use Rattle.duty_turns.specs.TurnSteps.{TurnCall, TurnReply, TurnStep, Fits, Worked, Works}
use Rattle.aggregation_law.specs.Earned.{WereTaken}
use Rattle.aggregation_law.specs.Reasons.{HadEnd, IsPair}

-- ---- which lane a task is dealt to

pair_here : (b : Bool) (x t : Task) (xs : List Task) (y e : Ended) (ys : List Ended) → b ≡ true → (x ≡ t) × (y ≡ e) → IsPair (if b then x ∷ xs else xs) (if b then y ∷ ys else ys) t e
pair_here true x t xs y e ys is p = inl p
pair_here false x t xs y e ys is p = absurd (let bad : false ≡ true = is in cc)

pair_later : (b : Bool) (x t : Task) (xs : List Task) (y e : Ended) (ys : List Ended) → IsPair xs ys t e → IsPair (if b then x ∷ xs else xs) (if b then y ∷ ys else ys) t e
pair_later true x t xs y e ys p = inr p
pair_later false x t xs y e ys p = p

dealt_pair : (n place : ℕ) (tasks : List Task) (ends : List Ended) (t : Task) (e : Ended) → 0 < n → IsPair tasks ends t e → (lane : ℕ) × (lane < n) × IsPair (dealt n lane place tasks) (dealt n lane place ends) t e
dealt_pair n place [] ends t e some p = absurd p
dealt_pair n place (x ∷ xs) [] t e some p = absurd p
dealt_pair n place (x ∷ xs) (y ∷ ys) t e some (inl p) =
    let lane = place % n in
    (lane, mod_below place n some, pair_here (lane == lane) x t (dealt n lane (place + 1) xs) y e (dealt n lane (place + 1) ys) (eq-eqb lane lane refl) p)
dealt_pair n place (x ∷ xs) (y ∷ ys) t e some (inr p) =
    let more = dealt_pair n (place + 1) xs ys t e some p in
    (more.0, more.1, pair_later (place % n == more.0) x t (dealt n more.0 (place + 1) xs) y e (dealt n more.0 (place + 1) ys) more.2)

from_if : (b : Bool) (x t : Task) (xs : List Task) → Contains (if b then x ∷ xs else xs) t → (x ≡ t) ⊎ Contains xs t
from_if true x t xs c = contains_cases x xs t c
from_if false x t xs c = inr c

pub dealt_from : (n lane place : ℕ) (tasks : List Task) (t : Task) → Contains (dealt n lane place tasks) t → Contains tasks t
dealt_from n lane place [] t c = contains_none t c
dealt_from n lane place (x ∷ xs) t c = by_cases (λ h. dealt_from n lane (place + 1) xs t h) (from_if (place % n == lane) x t (dealt n lane (place + 1) xs) c) where
  by_cases : (Contains (dealt n lane (place + 1) xs) t → Contains xs t) → (x ≡ t) ⊎ Contains (dealt n lane (place + 1) xs) t → Contains (x ∷ xs) t
  by_cases more (inl e) = subst (λ (y : Task). Contains (x ∷ xs) y) e (contains_first x xs)
  by_cases more (inr h) = contains_later x xs t (more h)

-- ---- what a lane did

share_at : (work : SlotWork) (place : ℕ) (tasks : List Task) (ends : List Ended) (n from : ℕ) (made : List (List DutyStep)) → DidShares work place tasks (Some ends) n from made → (lane : ℕ) → from ≤ lane → lane < from + length made
    → (steps : List DutyStep) × Contains made steps × Follows duties.Fits (slot_plan work (dealt n lane place tasks)) steps (Some (dealt n lane place ends))
share_at work place tasks ends n from [] h lane low high = absurd (omega (arith, low, high))
share_at work place tasks ends n from (steps ∷ others) h lane low high = by_order (λ less. share_at work place tasks ends n (from + 1) others h.1 lane (omega (arith, less)) (omega (arith, high))) (cases_order from lane) where
  by_order : (from < lane → (own : List DutyStep) × Contains others own × Follows duties.Fits (slot_plan work (dealt n lane place tasks)) own (Some (dealt n lane place ends))) → (from ≡ lane) ⊎ ((from < lane) ⊎ (lane < from)) → (own : List DutyStep) × Contains (steps ∷ others) own × Follows duties.Fits (slot_plan work (dealt n lane place tasks)) own (Some (dealt n lane place ends))
  by_order rest (inl e) =
      let P : ℕ → Type 0 = λ l. Follows duties.Fits (slot_plan work (dealt n l place tasks)) steps (Some (dealt n l place ends)) in
      (steps, contains_first steps others, subst P e h.0)
  by_order rest (inr (inl less)) = let more = rest less in (more.0, contains_later steps others more.0 more.1, more.2)
  by_order rest (inr (inr more)) = absurd (omega (arith, low, more))

-- the steps of a task that ended
pub record PartOf (work : SlotWork) (t : Task) (e : Ended) (steps : List DutyStep) : Type 0 where
  pub front : List DutyStep
  pub own : List DutyStep
  pub back : List DutyStep
  pub are : steps ≡ front ++ (own ++ back)
  pub follows : Follows duties.Fits (task_plan work t) own (Some e)

each_pair : (work : SlotWork) (tasks : List Task) (steps : List DutyStep) (ends : List Ended) (t : Task) (e : Ended) → EachDone work tasks steps ends → IsPair tasks ends t e → PartOf work t e steps
each_pair work [] steps ends t e h p = absurd p
each_pair work (x ∷ xs) steps [] t e h p = absurd p
each_pair work (x ∷ xs) steps (y ∷ ys) t e h (inl p) =
    let P : Task → Type 0 = λ k. Follows duties.Fits (task_plan work k) h.0 (Some e) in
    let Q : Ended → Type 0 = λ k. Follows duties.Fits (task_plan work x) h.0 (Some k) in
    record { front = []; own = h.0; back = h.1; are = h.2; follows = subst P p.0 (subst Q p.1 h.3) }
each_pair work (x ∷ xs) steps (y ∷ ys) t e h (inr p) =
    let more = each_pair work xs h.1 ys t e h.4 p in
    record { front = h.0 ++ more.front; own = more.own; back = more.back; are = h.2 ∙ ap (λ (l : List DutyStep). h.0 ++ l) more.are ∙ sym (append_assoc h.0 more.front (more.own ++ more.back)); follows = more.follows }

-- a task that ended so took its own steps in a lane of its step
pub pair_done : (work : SlotWork) (place : ℕ) (tasks : List Task) (lanes : List (List DutyStep)) (ends : List Ended) (t : Task) (e : Ended) → Fits (Works work place tasks) (Worked lanes (Some ends)) → IsPair tasks ends t e
    → (lane : List DutyStep) × Contains lanes lane × PartOf work t e lane
pair_done work place tasks lanes ends t e fit p =
    let n = length lanes in
    let at = dealt_pair n place tasks ends t e fit.2 p in
    let lane = share_at work place tasks ends n 0 lanes fit.0 at.0 (omega arith) (omega (arith, at.1)) in
    let mine = dealt n at.0 place tasks in
    let theirs = dealt n at.0 place ends in
    (lane.0, lane.1, each_pair work mine lane.0 theirs t e (each_done work mine lane.0 theirs lane.2) at.2)

-- a step fits
abbrev pub AllFit : List TurnStep → Type 0
AllFit steps = (c : TurnCall) (r : TurnReply) → Contains steps (c, r) → Fits c r

pub record TookTo (steps : List TurnStep) (work : SlotWork) (t : Task) (e : Ended) : Type 0 where
  pub own : List DutyStep
  pub taken : WereTaken steps work own
  pub follows : Follows duties.Fits (task_plan work t) own (Some e)

-- so in steps that each fit
pub took : (steps : List TurnStep) → AllFit steps → (work : SlotWork) (t : Task) (e : Ended) → HadEnd steps work t e → TookTo steps work t e
took steps fit work t e h =
    let done = pair_done work h.place h.tasks h.lanes h.ends t e (fit (Works work h.place h.tasks) (Worked h.lanes (Some h.ends)) h.step) h.pair in
    let part = done.2 in
    record {
      own = part.own;
      taken = record { place = h.place; tasks = h.tasks; lanes = h.lanes; ends = Some h.ends; step = h.step; lane = done.0; in_lane = done.1; front = part.front; back = part.back; are = part.are };
      follows = part.follows;
    }

-- ---- any step of a lane is one of some task, whether or not memory ran out

one_share : (work : SlotWork) (place : ℕ) (tasks : List Task) (ends : Option (List Ended)) (n lane : ℕ) (steps : List DutyStep) → DidShare work place tasks ends n lane steps
    → (v : Option (List Ended)) × Follows duties.Fits (slot_plan work (dealt n lane place tasks)) steps v
one_share work place tasks (Some ends) n lane steps h = (Some (dealt n lane place ends), h)
one_share work place tasks None n lane steps h = h

any_share : (work : SlotWork) (place : ℕ) (tasks : List Task) (ends : Option (List Ended)) (n from : ℕ) (made : List (List DutyStep)) (lane : List DutyStep) → DidShares work place tasks ends n from made → Contains made lane
    → (l : ℕ) × (v : Option (List Ended)) × Follows duties.Fits (slot_plan work (dealt n l place tasks)) lane v
any_share work place tasks ends n from [] lane h c = contains_none lane c
any_share work place tasks ends n from (steps ∷ others) lane h c = by_cases (λ r. any_share work place tasks ends n (from + 1) others lane h.1 r) (contains_cases steps others lane c) where
  by_cases : (Contains others lane → (l : ℕ) × (v : Option (List Ended)) × Follows duties.Fits (slot_plan work (dealt n l place tasks)) lane v) → (steps ≡ lane) ⊎ Contains others lane → (l : ℕ) × (v : Option (List Ended)) × Follows duties.Fits (slot_plan work (dealt n l place tasks)) lane v
  by_cases rest (inl e) =
      let one = one_share work place tasks ends n from steps h.0 in
      let P : List DutyStep → Type 0 = λ s. Follows duties.Fits (slot_plan work (dealt n from place tasks)) s one.0 in
      (from, one.0, subst P e one.1)
  by_cases rest (inr r) = rest r

pub record StepOf (work : SlotWork) (tasks : List Task) (s : DutyStep) : Type 0 where
  pub one : Task
  pub among : Contains tasks one
  pub own : List DutyStep
  pub ended : Option Ended
  pub follows : Follows duties.Fits (task_plan work one) own ended
  pub is_in : Contains own s

step_of : (work : SlotWork) (got : List Ended) (tasks : List Task) (steps : List DutyStep) (v : Option (List Ended)) (s : DutyStep) → Follows duties.Fits (each_plan (λ t. task_plan work t) got tasks) steps v → Contains steps s → StepOf work tasks s
step_of work got [] [] v s f c = contains_none s c
step_of work got [] (x ∷ steps) v s f c = absurd f
step_of work got (t ∷ tasks) steps v s f c = by_cases (λ x ys f2 h. step_of work (got ++ x ∷ []) tasks ys v s f2 h) (follows_cases duties.Fits (task_plan work t) next steps v f) where
  next : Ended → duties.DutyPlan (List Ended)
  next x = each_plan (λ k. task_plan work k) (got ++ x ∷ []) tasks

  by_side : ((x : Ended) (ys : List DutyStep) → Follows duties.Fits (next x) ys v → Contains ys s → StepOf work tasks s) → (xs ys : List DutyStep) (x : Ended) → Follows duties.Fits (task_plan work t) xs (Some x) → Follows duties.Fits (next x) ys v → Contains xs s ⊎ Contains ys s → StepOf work (t ∷ tasks) s
  by_side rest xs ys x f1 f2 (inl h) = record { one = t; among = contains_first t tasks; own = xs; ended = Some x; follows = f1; is_in = h }
  by_side rest xs ys x f1 f2 (inr h) =
      let more = rest x ys f2 h in
      record { one = more.one; among = contains_later t tasks more.one more.among; own = more.own; ended = more.ended; follows = more.follows; is_in = more.is_in }

  by_cases : ((x : Ended) (ys : List DutyStep) → Follows duties.Fits (next x) ys v → Contains ys s → StepOf work tasks s) → ((v ≡ None) × Follows duties.Fits (task_plan work t) steps None)
      ⊎ ((xs : List DutyStep) × (ys : List DutyStep) × (x : Ended) × (steps ≡ xs ++ ys) × Follows duties.Fits (task_plan work t) xs (Some x) × Follows duties.Fits (next x) ys v) → StepOf work (t ∷ tasks) s
  by_cases rest (inl cut) = record { one = t; among = contains_first t tasks; own = steps; ended = None; follows = cut.1; is_in = c }
  by_cases rest (inr r) =
      let P : List DutyStep → Type 0 = λ l. Contains l s in
      by_side rest r.0 r.1 r.2 r.4 r.5 (Contains-append_cases r.0 r.1 s (subst P r.3 c))

pub lane_step : (work : SlotWork) (place : ℕ) (tasks : List Task) (ends : Option (List Ended)) (made : List (List DutyStep)) (lane : List DutyStep) (s : DutyStep) → DidShares work place tasks ends (length made) 0 made
    → Contains made lane → Contains lane s → StepOf work tasks s
lane_step work place tasks ends made lane s did in_lane in_steps =
    let n = length made in
    let share = any_share work place tasks ends n 0 made lane did in_lane in
    let mine = dealt n share.0 place tasks in
    let one = step_of work [] mine lane share.1 s share.2 in_steps in
    record { one = one.one; among = dealt_from n share.0 place tasks one.one one.among; own = one.own; ended = one.ended; follows = one.follows; is_in = one.is_in }

pub call_at : (P : DutyCall → Type 0) (steps : List DutyStep) (s : DutyStep) → AllCall P steps → Contains steps s → P s.0
call_at P [] s h c = contains_none s c
call_at P (x ∷ steps) s h c = by_cases (λ r. call_at P steps s h.1 r) (contains_cases x steps s c) where
  by_cases : (Contains steps s → P s.0) → (x ≡ s) ⊎ Contains steps s → P s.0
  by_cases rest (inl e) = subst (λ (y : DutyStep). P y.0) e h.0
  by_cases rest (inr r) = rest r
