-- What turns call is guarded: the loop's own calls, and those of each lane.
use Rattle.std.proofs.Common.{◌≡◌, ℕ, zero, suc, ◌+◌, List, [], ◌∷◌, ◌++◌, length, Bool, true, false, slice_get, flat_map, Option, Some, None, Result, refl, sym, ◌∙◌, ap, subst}
use Rattle.std.proofs.lemmas.Grind.{flat_map-append}
use Rattle.desk_machine.specs.declared.call.DeskCall.{DeskCall}
use Rattle.desk_machine.specs.declared.call.DeskReply.{DeskReply}
use Rattle.client_calls.proofs.SeatLemmas.{Leads, More, NoneLed}
use Rattle.node_calls.specs.declared.answer.Answer.{Answer}
use Rattle.node_calls.specs.declared.answer.NodeFault.{NodeFault}
use Rattle.call_plans.specs.Plans.{Done, Stop, Ask as Step, Follows}
use Rattle.call_plans.specs.Paths.{Path}
use Rattle.duty_plans.specs.Hands.{Hand, Free, hand_after}
use Rattle.duty_plans.specs.Plans.{slot_plan}
use Rattle.duty_plans.specs.Seats.{Seat}
use Rattle.duty_plans.specs.Seats as seats
use Rattle.duty_plans.specs.Steps.{DutyStep, desk_calls, step_calls}
use Rattle.duty_plans.specs.declared.ended.Ended.{Ended}
use Rattle.duty_plans.specs.declared.task.Task.{Task}
use Rattle.duty_plans.specs.declared.work.SlotWork.{SlotWork}
use Rattle.duty_plans.proofs.GuardLemmas.{AllFit, MayAll, follows_fit, hand_over, posted_granted, posts_guarded, signs_guarded}
use Rattle.duty_plans.proofs.SeatLemmas.{did_all}
use Rattle.duty_turns.specs.Lanes.{AreRefreshed, DidShare, DidShares, EachDoes, IsRefreshed, dealt}
use Rattle.duty_turns.specs.TurnSteps.{Does, Fits, House, LanesRefreshed, LooksUp, Due, Own, Owned, Refreshed, Refreshes, RefreshesLanes, TurnCall, TurnPlan, TurnStep, Waits, Woke, Worked, Works, Writes, Wrote}
use Rattle.duty_loop.specs.Guarding.{AllFree, Guarded, GuardedAt, IsFree, lane_steps, loop_steps, own_steps, share_of, steps_at}

-- the calls lead from the one to the other, each may be made, and this is in hand then
record Calling {K : Type 0} (leads : Leads K) (a : Seat K) (steps : List DutyStep) (b : Seat K) : Type 0 where
  desk : leads a.desk (desk_calls steps) b.desk
  may : MayAll a.hand steps
  hand : b.hand ≡ hand_over a.hand steps

-- so of each lane, by its number
abbrev EachCalls : {K : Type 0} → Leads K → List (Seat K) → (ℕ → List DutyStep) → List (Seat K) → Type 0
EachCalls leads [] steps [] = Unit {0}
EachCalls leads (a ∷ old) steps (b ∷ new) = Calling leads a (steps zero) b × EachCalls leads old (λ lane. steps (suc lane)) new
EachCalls leads _ steps _ = ⊥

may_on : (h : Hand) (xs ys : List DutyStep) → MayAll h xs → MayAll (hand_over h xs) ys → MayAll h (xs ++ ys)
may_on h [] ys m n = n
may_on h (s ∷ xs) ys m n = (m.0, may_on (hand_after h s) xs ys m.1 n)

over_on : (h : Hand) (xs ys : List DutyStep) → hand_over h (xs ++ ys) ≡ hand_over (hand_over h xs) ys
over_on h [] ys = refl
over_on h (s ∷ xs) ys = over_on (hand_after h s) xs ys

fit_on : (xs ys : List DutyStep) → AllFit xs → AllFit ys → AllFit (xs ++ ys)
fit_on [] ys f g = g
fit_on (s ∷ xs) ys f g = (f.0, fit_on xs ys f.1 g)

-- ---- each call fits

own_fit : (s : TurnStep) → Fits s.0 s.1 → AllFit (own_steps s)
own_fit (Own c, Owned r) f = (f, tt)
own_fit s f = tt

share_fit : (work : SlotWork) (place : ℕ) (ds : List Task) (results : Option (List Ended)) (lanes lane : ℕ) (steps : List DutyStep) → DidShare work place ds results lanes lane steps → AllFit steps
share_fit work place ds (Some results) lanes lane steps f = follows_fit (slot_plan work (dealt lanes lane place ds)) steps (Some (dealt lanes lane place results)) f
share_fit work place ds None lanes lane steps f = follows_fit (slot_plan work (dealt lanes lane place ds)) steps f.0 f.1

shares_fit : (work : SlotWork) (place : ℕ) (ds : List Task) (results : Option (List Ended)) (lanes first lane : ℕ) (steps : List (List DutyStep)) → DidShares work place ds results lanes first steps → AllFit (steps_at lane steps)
shares_fit work place ds results lanes first lane [] f = tt
shares_fit work place ds results lanes first zero (own ∷ others) f = share_fit work place ds results lanes first own f.0
shares_fit work place ds results lanes first (suc lane) (own ∷ others) f = shares_fit work place ds results lanes (first + 1) lane others f.1

lane_fit : (lane : ℕ) (s : TurnStep) → Fits s.0 s.1 → AllFit (share_of lane s)
lane_fit lane (Works work place ds, Worked lanes results) f = shares_fit work place ds results (length lanes) 0 lane lanes f.0
lane_fit lane s f = tt

-- so of all steps, by what each gives
fits_all : {X : Type 0} (part : TurnStep → List DutyStep) (fit : (s : TurnStep) → Fits s.0 s.1 → AllFit (part s)) (plan : TurnPlan X) (steps : List TurnStep) (v : Option X)
    → Follows Fits plan steps v → AllFit (flat_map part steps)
fits_all part fit plan [] v f = tt
fits_all part fit (Done x) (s ∷ steps) v f = absurd f
fits_all part fit Stop (s ∷ steps) v f = absurd f
fits_all part fit (Step c k) (s ∷ steps) v f =
    fit_on (part s) (flat_map part steps) (fit s (subst (λ (x : TurnCall). Fits x s.1) (sym f.0) f.1)) (fits_all part fit (k s.1) steps v f.2)

module _ {K : Type 0} (leads : Leads K) (none : NoneLed leads) (more : More leads) where
  -- ---- one desk

  calling_same : (a b : Seat K) → b.desk ≡ a.desk → b.hand ≡ a.hand → Calling leads a [] b
  calling_same a b d h = record { desk = subst (λ (x : K). leads a.desk [] x) (sym d) (none a.desk); may = tt; hand = h }

  calling_on : (a m b : Seat K) (xs ys : List DutyStep) → Calling leads a xs m → Calling leads m ys b → Calling leads a (xs ++ ys) b
  calling_on a m b xs ys p q = record {
    desk = subst (λ (l : List (DeskCall × DeskReply)). leads a.desk l b.desk) (sym (flat_map-append step_calls xs ys)) (more a.desk m.desk b.desk (desk_calls xs) (desk_calls ys) p.desk q.desk);
    may = may_on a.hand xs ys p.may (subst (λ (h : Hand). MayAll h ys) p.hand q.may);
    hand = subst (λ (h : Hand). b.hand ≡ hand_over h ys) p.hand q.hand ∙ sym (over_on a.hand xs ys);
  }

  calling_path : (a b : Seat K) (steps : List DutyStep) → Path (seats.Does leads) a steps b → Calling leads a steps b
  calling_path a b steps p = let all = did_all leads none more a b steps p in record { desk = all.desk; may = all.may; hand = all.hand }

  refreshed_calling : (whole : Bool) (a b : Seat K) (replies : List (Result Answer NodeFault)) → IsRefreshed whole a replies b → Calling leads a [] b
  refreshed_calling true a b replies r = calling_same a b (ap (λ (x : Seat K). x.desk) r.2) (ap (λ (x : Seat K). x.hand) r.2)
  refreshed_calling false a b replies r = calling_same a b (ap (λ (x : Seat K). x.desk) r.2) (ap (λ (x : Seat K). x.hand) r.2)

  guarded_at : (a b : Seat K) (steps : List DutyStep) → a.hand ≡ Free → b.hand ≡ Free → Calling leads a steps b → AllFit steps → GuardedAt leads a.desk b.desk steps
  guarded_at a b steps free ends all fit =
      let may : MayAll Free steps = subst (λ (h : Hand). MayAll h steps) free all.may in
      let over : hand_over Free steps ≡ Free = subst (λ (h : Hand). hand_over h steps ≡ Free) free (sym all.hand ∙ ends) in
      let posts = posts_guarded steps may fit over in
      record { desk = all.desk; posts = posts; signs = signs_guarded steps may fit over; granted = posted_granted steps posts fit }

  -- ---- the lanes

  each_same : (old new : List (Seat K)) → new ≡ old → EachCalls leads old (λ lane. []) new
  each_same old new e = subst (λ (l : List (Seat K)). EachCalls leads old (λ lane. []) l) (sym e) (untouched old) where
    untouched : (l : List (Seat K)) → EachCalls leads l (λ lane. []) l
    untouched [] = tt
    untouched (a ∷ l) = (calling_same a a refl refl, untouched l)

  each_on : (old mid new : List (Seat K)) (first second : ℕ → List DutyStep) → EachCalls leads old first mid → EachCalls leads mid second new → EachCalls leads old (λ lane. first lane ++ second lane) new
  each_on [] [] [] first second p q = tt
  each_on [] [] (b ∷ new) first second p q = absurd q
  each_on [] (m ∷ mid) new first second p q = absurd p
  each_on (a ∷ old) [] new first second p q = absurd p
  each_on (a ∷ old) (m ∷ mid) [] first second p q = absurd q
  each_on (a ∷ old) (m ∷ mid) (b ∷ new) first second p q =
      (calling_on a m b (first zero) (second zero) p.0 q.0, each_on old mid new (λ lane. first (suc lane)) (λ lane. second (suc lane)) p.1 q.1)

  each_refreshed : (whole : Bool) (old new : List (Seat K)) (replies : List (List (Result Answer NodeFault))) → AreRefreshed whole old replies new → EachCalls leads old (λ lane. []) new
  each_refreshed true [] [] [] r = tt
  each_refreshed true [] [] (own ∷ others) r = absurd r
  each_refreshed true [] (b ∷ new) [] r = absurd r
  each_refreshed true [] (b ∷ new) (own ∷ others) r = absurd r
  each_refreshed true (a ∷ old) [] [] r = absurd r
  each_refreshed true (a ∷ old) [] (own ∷ others) r = absurd r
  each_refreshed true (a ∷ old) (b ∷ new) [] r = absurd r
  each_refreshed true (a ∷ old) (b ∷ new) (own ∷ others) r = (refreshed_calling true a b own r.0, each_refreshed true old new others r.1)
  each_refreshed false [] new replies r = absurd r
  each_refreshed false (a ∷ old) [] [] r = absurd r
  each_refreshed false (a ∷ old) [] (own ∷ []) r = absurd r
  each_refreshed false (a ∷ old) [] (own ∷ next ∷ others) r = absurd r
  each_refreshed false (a ∷ old) (b ∷ new) [] r = absurd r
  each_refreshed false (a ∷ old) (b ∷ new) (own ∷ []) r = (refreshed_calling false a b own r.0, each_same old new r.1)
  each_refreshed false (a ∷ old) (b ∷ new) (own ∷ next ∷ others) r = (refreshed_calling true a b own r.0, each_refreshed false old new (next ∷ others) r.1)

  each_did : (old new : List (Seat K)) (steps : List (List DutyStep)) → EachDoes leads old steps new → EachCalls leads old (λ lane. steps_at lane steps) new
  each_did [] [] [] d = tt
  each_did [] [] (own ∷ others) d = absurd d
  each_did [] (b ∷ new) [] d = absurd d
  each_did [] (b ∷ new) (own ∷ others) d = absurd d
  each_did (a ∷ old) [] [] d = absurd d
  each_did (a ∷ old) [] (own ∷ others) d = absurd d
  each_did (a ∷ old) (b ∷ new) [] d = absurd d
  each_did (a ∷ old) (b ∷ new) (own ∷ others) d = (calling_path a b own d.0, each_did old new others d.1)

  each_long : (old new : List (Seat K)) (steps : ℕ → List DutyStep) → EachCalls leads old steps new → length new ≡ length old
  each_long [] [] steps p = refl
  each_long [] (b ∷ new) steps p = absurd p
  each_long (a ∷ old) [] steps p = absurd p
  each_long (a ∷ old) (b ∷ new) steps p = ap suc (each_long old new (λ lane. steps (suc lane)) p.1)

  -- the lane of a number
  each_guarded : (old new : List (Seat K)) (steps : ℕ → List DutyStep) → EachCalls leads old steps new → AllFree old → AllFree new → ((lane : ℕ) → AllFit (steps lane))
      → (lane : ℕ) (a b : Seat K) → slice_get old lane ≡ Some a → slice_get new lane ≡ Some b → GuardedAt leads a.desk b.desk (steps lane)
  each_guarded [] new steps p free ends fit lane a b at now = absurd (cc at)
  each_guarded (x ∷ old) [] steps p free ends fit lane a b at now = absurd p
  each_guarded (x ∷ old) (y ∷ new) steps p free ends fit zero a b at now =
      let before : x ≡ a = cc at in
      let after : y ≡ b = cc now in
      subst (λ (s : Seat K). GuardedAt leads s.desk b.desk (steps zero)) before (subst (λ (s : Seat K). GuardedAt leads x.desk s.desk (steps zero)) after (guarded_at x y (steps zero) free.0 ends.0 p.0 (fit zero)))
  each_guarded (x ∷ old) (y ∷ new) steps p free ends fit (suc lane) a b at now = each_guarded old new (λ n. steps (suc n)) p.1 free.1 ends.1 (λ n. fit (suc n)) lane a b at now

  -- ---- turns

  module _ (start : Option ℕ) where
    own_calling : (a b : House K) (s : TurnStep) → Does leads start a s b → Calling leads a.seat (own_steps s) b.seat
    own_calling a b (Waits moment, Woke reached) d = calling_same a.seat b.seat (ap (λ (h : House K). h.seat.desk) d.1) (ap (λ (h : House K). h.seat.hand) d.1)
    own_calling a b (Refreshes, Refreshed whole replies) d = refreshed_calling whole a.seat b.seat replies d.0
    own_calling a b (RefreshesLanes, LanesRefreshed whole replies) d = calling_same a.seat b.seat (ap (λ (h : House K). h.seat.desk) d.1) (ap (λ (h : House K). h.seat.hand) d.1)
    own_calling a b (Own c, Owned r) d = calling_path a.seat b.seat ((c, r) ∷ []) (b.seat, d.0, refl)
    own_calling a b (LooksUp answers slot active, Due found) d = calling_same a.seat b.seat (ap (λ (h : House K). h.seat.desk) d) (ap (λ (h : House K). h.seat.hand) d)
    own_calling a b (Works work place found, Worked lanes results) d = calling_same a.seat b.seat (ap (λ (h : House K). h.seat.desk) d.1) (ap (λ (h : House K). h.seat.hand) d.1)
    own_calling a b (Writes text, Wrote whole piece) d = calling_same a.seat b.seat (ap (λ (h : House K). h.seat.desk) d.1) (ap (λ (h : House K). h.seat.hand) d.1)
    own_calling a b s d = absurd d

    lanes_calling : (a b : House K) (s : TurnStep) → Does leads start a s b → EachCalls leads a.lanes (λ lane. share_of lane s) b.lanes
    lanes_calling a b (Waits moment, Woke reached) d = each_same a.lanes b.lanes (ap (λ (h : House K). h.lanes) d.1)
    lanes_calling a b (Refreshes, Refreshed whole replies) d = each_same a.lanes b.lanes (ap (λ (h : House K). h.lanes) d.1)
    lanes_calling a b (RefreshesLanes, LanesRefreshed whole replies) d = each_refreshed whole a.lanes b.lanes replies d.0
    lanes_calling a b (Own c, Owned r) d = each_same a.lanes b.lanes (ap (λ (h : House K). h.lanes) d.1)
    lanes_calling a b (LooksUp answers slot active, Due found) d = each_same a.lanes b.lanes (ap (λ (h : House K). h.lanes) d)
    lanes_calling a b (Works work place found, Worked lanes results) d = each_did a.lanes b.lanes lanes d.0
    lanes_calling a b (Writes text, Wrote whole piece) d = each_same a.lanes b.lanes (ap (λ (h : House K). h.lanes) d.1)
    lanes_calling a b s d = absurd d

    own_turns : (a b : House K) (steps : List TurnStep) → Path (Does leads start) a steps b → Calling leads a.seat (loop_steps steps) b.seat
    own_turns a b [] p = calling_same a.seat b.seat (ap (λ (h : House K). h.seat.desk) p) (ap (λ (h : House K). h.seat.hand) p)
    own_turns a b (s ∷ steps) p = calling_on a.seat p.0.seat b.seat (own_steps s) (loop_steps steps) (own_calling a p.0 s p.1) (own_turns p.0 b steps p.2)

    lanes_turns : (a b : House K) (steps : List TurnStep) → Path (Does leads start) a steps b → EachCalls leads a.lanes (λ lane. lane_steps lane steps) b.lanes
    lanes_turns a b [] p = each_same a.lanes b.lanes (ap (λ (h : House K). h.lanes) p)
    lanes_turns a b (s ∷ steps) p = each_on a.lanes p.0.lanes b.lanes (λ lane. share_of lane s) (λ lane. lane_steps lane steps) (lanes_calling a p.0 s p.1) (lanes_turns p.0 b steps p.2)

    pub turns_guarded : {X : Type 0} (plan : TurnPlan X) (a b : House K) (steps : List TurnStep) (v : Option X) → IsFree a → IsFree b
        → Path (Does leads start) a steps b → Follows Fits plan steps v → Guarded leads a b steps
    turns_guarded plan a b steps v free ends path follows =
        let lanes = lanes_turns a b steps path in
        record {
          own = guarded_at a.seat b.seat (loop_steps steps) free.own ends.own (own_turns a b steps path) (fits_all own_steps own_fit plan steps v follows);
          lanes = each_guarded a.lanes b.lanes (λ lane. lane_steps lane steps) lanes free.lanes ends.lanes (λ lane. fits_all (share_of lane) (lane_fit lane) plan steps v follows);
          same_lanes = each_long a.lanes b.lanes (λ lane. lane_steps lane steps) lanes;
        }
