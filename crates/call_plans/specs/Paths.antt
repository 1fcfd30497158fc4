-- A plan carried out on objects that go from state to state.
use Rattle.std.specs.Prelude.{◌≡◌, List, [], ◌∷◌, Option}
use Rattle.call_plans.specs.Plans.{Plan, Follows, Reaches}

-- by these steps, one after another, from the first state to the last
abbrev pub Path : {S E : Type 0} → (S → E → S → Type 0) → S → List E → S → Type 0
Path does a [] b = b ≡ a
Path {S} does a (e ∷ es) b = (m : S) × does a e m × Path does m es b

-- the plan was carried out from the one state to the other, and gave this value; None: memory ran out
pub record Carries {S C R X : Type 0} (fits : C → R → Type 0) (does : S → C × R → S → Type 0) (plan : Plan C R X) (a b : S) (value : Option X) : Type 0 where
  pub steps : List (C × R)
  pub path : Path does a steps b
  pub follows : Follows fits plan steps value

-- so far it was carried out up to what is left of it
pub record Comes {S C R X : Type 0} (fits : C → R → Type 0) (does : S → C × R → S → Type 0) (plan rest : Plan C R X) (a b : S) : Type 0 where
  pub steps : List (C × R)
  pub path : Path does a steps b
  pub reaches : Reaches fits plan steps rest
