-- Membership in a list.
use Rattle.std.proofs.Common.{◌≡◌, ℕ, zero, suc, ◌<◌, ◌⊎◌, inl, inr, List, [], ◌∷◌, length, get_or, refl, arith, All, Contains}
use Rattle.std.proofs.lemmas.List.Elements.{Contains-get_or}

pub All-from_contains : {X : Type 0} (P : X → Type 0) (xs : List X) → ((x : X) → Contains xs x → P x) → All P xs
All-from_contains P xs each = λ k d lt. each (get_or xs k d) (Contains-get_or xs k d lt)

pub contains_first : {X : Type 0} (x : X) (xs : List X) → Contains (x ∷ xs) x
contains_first x xs = (0, omega arith, refl)

pub contains_later : {X : Type 0} (y : X) (xs : List X) (x : X) → Contains xs x → Contains (y ∷ xs) x
contains_later y xs x has = (suc has.0, omega (arith, has.1), has.2)

pub contains_cases : {X : Type 0} (y : X) (xs : List X) (x : X) → Contains (y ∷ xs) x → (y ≡ x) ⊎ Contains xs x
contains_cases {X} y xs x has = at has.0 has.1 has.2 where
  at : (k : ℕ) → k < length (y ∷ xs) → get_or (y ∷ xs) k x ≡ x → (y ≡ x) ⊎ Contains xs x
  at zero lt e = inl e
  at (suc k) lt e = inr (k, omega arith, e)

pub contains_none : {X : Type 0} {A : Type 0} (x : X) → Contains [] x → A
contains_none x has = absurd (omega (arith, has.1))
