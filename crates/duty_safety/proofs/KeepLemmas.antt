-- One plan in place of another: by the same steps, where what is said of each wait holds.
use Rattle.std.proofs.Common.{◌≡◌, ◌⊎◌, inl, inr, ℕ, Bool, true, false, List, [], ◌∷◌, ◌++◌, Option, Some, None, sym, subst}
use Rattle.std.specs.Prelude.{IfSome, if◌then◌else◌}
use Rattle.call_plans.specs.Plans.{Done, Stop, Ask as Step, bind, Follows}
use Rattle.call_plans.proofs.PlanLemmas.{follows_bind, follows_cut, follows_cases}
use Rattle.duty_schedule.specs.declared.rows.Duty.{Duty}
use Rattle.duty_plans.specs.declared.ended.Ended.{Ended}
use Rattle.duty_turns.specs.TurnSteps.{TurnCall, TurnPlan, TurnReply, TurnStep, Fits, Waits, Woke, Refreshed, LanesRefreshed, Due, Worked, Wrote}
use Rattle.duty_turns.specs.Turns.{woken, refreshed, lanes_refreshed, found, worked, written}
use Rattle.duty_safety.specs.OnTime.{Wait, IsWait, AllWaits}

-- what follows the first follows the second, and the value is such
abbrev pub Keeps : {X : Type 0} → Wait → (X → Type 0) → TurnPlan X → TurnPlan X → Type 0
Keeps {X} W Q p q = (steps : List TurnStep) (v : Option X) → Follows Fits p steps v → AllWaits W steps → Follows Fits q steps v × IfSome v Q

waits_split : (W : Wait) (xs ys : List TurnStep) → AllWaits W (xs ++ ys) → AllWaits W xs × AllWaits W ys
waits_split W [] ys h = (tt, h)
waits_split W (x ∷ xs) ys h = let rest = waits_split W xs ys h.1 in ((h.0, rest.0), rest.1)

pub keeps_done : {X : Type 0} (W : Wait) (Q : X → Type 0) (x : X) → Q x → Keeps W Q (Done x) (Done x)
keeps_done W Q x q [] (Some y) f h = (f, subst Q (sym f) q)
keeps_done W Q x q [] None f h = (tt, tt)
keeps_done W Q x q (s ∷ steps) v f h = absurd f

pub keeps_stop : {X : Type 0} (W : Wait) (Q : X → Type 0) → Keeps W Q Stop Stop
keeps_stop W Q [] (Some y) f h = absurd f
keeps_stop W Q [] None f h = (tt, tt)
keeps_stop W Q (s ∷ steps) v f h = absurd f

pub keeps_ask : {X : Type 0} (W : Wait) (Q : X → Type 0) (c : TurnCall) (k l : TurnReply → TurnPlan X) → ((r : TurnReply) → IsWait W (c, r) → Keeps W Q (k r) (l r)) → Keeps W Q (Step c k) (Step c l)
keeps_ask W Q c k l on [] (Some y) f h = absurd f
keeps_ask W Q c k l on [] None f h = (tt, tt)
keeps_ask W Q c k l on ((d, r) ∷ steps) v f h =
    let P : TurnCall → Type 0 = λ x. IsWait W (x, r) in
    let rest = on r (subst P f.0 h.0) steps v f.2 h.1 in
    ((f.0, f.1, rest.0), rest.1)

pub keeps_bind : {X Y : Type 0} (W : Wait) (Q : X → Type 0) (R : Y → Type 0) (p q : TurnPlan X) (f g : X → TurnPlan Y) → Keeps W Q p q → ((x : X) → Q x → Keeps W R (f x) (g x)) → Keeps W R (bind p f) (bind q g)
keeps_bind {X} {Y} W Q R p q f g one on steps v h waits = by_cases (follows_cases Fits p f steps v h) where
  by_cases : ((v ≡ None) × Follows Fits p steps None) ⊎ ((xs : List TurnStep) × (ys : List TurnStep) × (x : X) × (steps ≡ xs ++ ys) × Follows Fits p xs (Some x) × Follows Fits (f x) ys v)
      → Follows Fits (bind q g) steps v × IfSome v R
  by_cases (inl cut) =
      let P : Option Y → Type 0 = λ o. Follows Fits (bind q g) steps o × IfSome o R in
      subst P (sym cut.0) (follows_cut Fits q g steps (one steps None cut.1 waits).0, tt)
  by_cases (inr s) =
      let A : List TurnStep → Type 0 = λ l. AllWaits W l in
      let parts = waits_split W s.0 s.1 (subst A s.3 waits) in
      let first = one s.0 (Some s.2) s.4 parts.0 in
      let later = on s.2 first.1 s.1 v s.5 parts.1 in
      let P : List TurnStep → Type 0 = λ l. Follows Fits (bind q g) l v in
      (subst P (sym s.3) (follows_bind Fits q g s.0 s.2 first.0 s.1 v later.0), later.1)

pub keeps_if : {X : Type 0} (W : Wait) (Q : X → Type 0) (b : Bool) (p q s t : TurnPlan X) → Keeps W Q p s → Keeps W Q q t → Keeps W Q (if b then p else q) (if b then s else t)
keeps_if W Q true p q s t h k = h
keeps_if W Q false p q s t h k = k

-- the other branch is never taken
pub keeps_else : {X : Type 0} (W : Wait) (Q : X → Type 0) (b : Bool) (p q t : TurnPlan X) → b ≡ false → Keeps W Q q t → Keeps W Q (if b then p else q) t
keeps_else W Q true p q t e h = absurd (let bad : true ≡ false = e in cc)
keeps_else W Q false p q t e h = h

-- ---- by the reply to a call

pub woken_keeps : {X : Type 0} (W : Wait) (Q : X → Type 0) (moment : ℕ) (r : TurnReply) (f g : ℕ → TurnPlan X) → IsWait W (Waits moment, r) → ((reached : ℕ) → W moment reached → Keeps W Q (f reached) (g reached))
    → Keeps W Q (woken r f) (woken r g)
woken_keeps W Q moment (Woke reached) f g is h = h reached is
woken_keeps W Q moment r f g is h = keeps_stop W Q

pub refreshed_keeps : {X : Type 0} (W : Wait) (Q : X → Type 0) (r : TurnReply) (p q : TurnPlan X) → Keeps W Q p q → Keeps W Q (refreshed r p) (refreshed r q)
refreshed_keeps W Q (Refreshed true replies) p q h = h
refreshed_keeps W Q r p q h = keeps_stop W Q

pub lanes_refreshed_keeps : {X : Type 0} (W : Wait) (Q : X → Type 0) (r : TurnReply) (p q : TurnPlan X) → Keeps W Q p q → Keeps W Q (lanes_refreshed r p) (lanes_refreshed r q)
lanes_refreshed_keeps W Q (LanesRefreshed true replies) p q h = h
lanes_refreshed_keeps W Q r p q h = keeps_stop W Q

pub found_keeps : {X : Type 0} (W : Wait) (Q : X → Type 0) (r : TurnReply) (f g : List Duty → TurnPlan X) → ((ds : List Duty) → Keeps W Q (f ds) (g ds)) → Keeps W Q (found r f) (found r g)
found_keeps W Q (Due ds) f g h = h ds
found_keeps W Q r f g h = keeps_stop W Q

pub worked_keeps : {X : Type 0} (W : Wait) (Q : X → Type 0) (r : TurnReply) (f g : List Ended → TurnPlan X) → ((ends : List Ended) → Keeps W Q (f ends) (g ends)) → Keeps W Q (worked r f) (worked r g)
worked_keeps W Q (Worked lanes (Some ends)) f g h = h ends
worked_keeps W Q r f g h = keeps_stop W Q

pub written_keeps : {X : Type 0} (W : Wait) (Q : Option X → Type 0) (r : TurnReply) (p q : TurnPlan (Option X)) → Q None → Keeps W Q p q → Keeps W Q (written r p) (written r q)
written_keeps W Q (Wrote true piece) p q n h = h
written_keeps W Q r p q n h = keeps_done W Q None n
