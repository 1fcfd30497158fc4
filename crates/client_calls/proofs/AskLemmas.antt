-- What a plan may ask at all.
use Rattle.std.proofs.Common.{List, [], ◌∷◌, ◌++◌, Option, Some, None, sym, subst}
use Rattle.call_plans.specs.Plans.{Plan, Done, Stop, Ask, bind, each_plan, Follows}

-- each call that it may come to is such, whatever the replies
abbrev pub AllAsked : {C R X : Type 0} → (C → Type 0) → Plan C R X → Type 0
AllAsked P (Done x) = Unit {0}
AllAsked P Stop = Unit {0}
AllAsked {C} {R} {X} P (Ask c k) = P c × ((r : R) → AllAsked P (k r))

-- each of these steps is such a call with its reply
abbrev pub AllSteps : {C R : Type 0} → (C → R → Type 0) → List (C × R) → Type 0
AllSteps P [] = Unit {0}
AllSteps P (s ∷ steps) = P s.0 s.1 × AllSteps P steps

pub asked_bind : {C R X Y : Type 0} (P : C → Type 0) (p : Plan C R X) (f : X → Plan C R Y) → AllAsked P p → ((x : X) → AllAsked P (f x)) → AllAsked P (bind p f)
asked_bind P (Done x) f h k = k x
asked_bind P Stop f h k = tt
asked_bind P (Ask c n) f h k = (h.0, λ r. asked_bind P (n r) f (h.1 r) k)

pub asked_each : {A C R X : Type 0} (P : C → Type 0) (plan : A → Plan C R X) (got : List X) (each : List A) → ((a : A) → AllAsked P (plan a)) → AllAsked P (each_plan plan got each)
asked_each P plan got [] h = tt
asked_each P plan got (a ∷ more) h = asked_bind P (plan a) (λ x. each_plan plan (got ++ x ∷ []) more) (h a) (λ x. asked_each P plan (got ++ x ∷ []) more h)

-- the steps of a plan are calls that it may come to, with replies that fit them
pub steps_asked : {C R X : Type 0} (fits : C → R → Type 0) (P : C → Type 0) (p : Plan C R X) (steps : List (C × R)) (v : Option X) → AllAsked P p → Follows fits p steps v → AllSteps (λ c r. P c × fits c r) steps
steps_asked fits P (Done x) [] v h f = tt
steps_asked fits P (Done x) (s ∷ steps) v h f = absurd f
steps_asked fits P Stop [] v h f = tt
steps_asked fits P Stop (s ∷ steps) v h f = absurd f
steps_asked fits P (Ask c k) [] v h f = tt
steps_asked {C} fits P (Ask c k) (s ∷ steps) v h f = ((subst P (sym f.0) h.0, subst (λ (x : C). fits x s.1) (sym f.0) f.1), steps_asked fits P (k s.1) steps v (h.1 s.1) f.2)

-- what was done to its end is the first few steps as well
pub cut_after : {C R X : Type 0} (fits : C → R → Type 0) (p : Plan C R X) (steps : List (C × R)) (x : X) → Follows fits p steps (Some x) → Follows fits p steps None
cut_after fits (Done x) [] y f = tt
cut_after fits (Done x) (s ∷ steps) y f = absurd f
cut_after fits Stop [] y f = tt
cut_after fits Stop (s ∷ steps) y f = absurd f
cut_after fits (Ask c k) [] y f = tt
cut_after fits (Ask c k) (s ∷ steps) y f = (f.0, f.1, cut_after fits (k s.1) steps y f.2)
