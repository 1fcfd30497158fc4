-- What is to be done of the outside, call by call: each next call follows from the replies so far.
use Rattle.std.specs.Prelude.{◌≡◌, List, [], ◌∷◌, ◌++◌, map, Option, Some, None}

-- a plan: it is done and gives a value; it stops, since memory ran out; or it makes a call and goes on by its reply
pub data Plan (C R X : Type 0) : Type 0 where
  Done : X → Plan C R X
  Stop : Plan C R X
  Ask : C → (R → Plan C R X) → Plan C R X

-- one plan after another
abbrev pub bind : {C R X Y : Type 0} → Plan C R X → (X → Plan C R Y) → Plan C R Y
bind (Done x) f = f x
bind Stop f = Stop
bind (Ask c k) f = Ask c (λ r. bind (k r) f)

-- a plan for each of a list, one after another, behind these values: it gives them and theirs, in order
abbrev pub each_plan : {A C R X : Type 0} → (A → Plan C R X) → List X → List A → Plan C R (List X)
each_plan plan got [] = Done got
each_plan plan got (a ∷ more) = bind (plan a) (λ x. each_plan plan (got ++ x ∷ []) more)

-- These steps, calls with replies that fit them, are the plan's, and it gave this value; None: memory ran out after them.
abbrev pub Follows : {C R X : Type 0} → (C → R → Type 0) → Plan C R X → List (C × R) → Option X → Type 0
Follows fits (Done x) [] (Some y) = y ≡ x
Follows fits (Done x) [] None = Unit {0}
Follows fits (Done x) (s ∷ steps) y = ⊥
Follows fits Stop [] (Some y) = ⊥
Follows fits Stop [] None = Unit {0}
Follows fits Stop (s ∷ steps) y = ⊥
Follows fits (Ask c k) [] (Some y) = ⊥
Follows fits (Ask c k) [] None = Unit {0}
Follows fits (Ask c k) (s ∷ steps) y = (s.0 ≡ c) × fits c s.1 × Follows fits (k s.1) steps y

-- by these steps the first plan comes to the second: whatever steps follow the second, they may come next
abbrev pub Reaches : {C R X : Type 0} → (C → R → Type 0) → Plan C R X → List (C × R) → Plan C R X → Type 0
Reaches {C} {R} {X} fits p steps q = (more : List (C × R)) (y : Option X) → Follows fits q more y → Follows fits p (steps ++ more) y

-- any reply is one to any call
abbrev pub Any : {C R : Type 0} → C → R → Type 0
Any c r = Unit {0}

abbrev pub reply_in : {C R : Type 0} → C × R → R
reply_in s = s.1

-- the replies of a run that gave a value determine its calls and the value
abbrev pub IsDetermined : {C R X : Type 0} → (C → R → Type 0) → Plan C R X → Type 0
IsDetermined {C} {R} {X} fits p = (xs ys : List (C × R)) (x y : X) → Follows fits p xs (Some x) → Follows fits p ys (Some y) → map reply_in xs ≡ map reply_in ys → (xs ≡ ys) × (x ≡ y)
