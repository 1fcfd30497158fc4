-- Plans, one after another.
use Rattle.std.proofs.Common.{◌≡◌, ◌⊎◌, inl, inr, List, [], ◌∷◌, ◌++◌, map, Option, Some, None, refl, sym, ◌∙◌, ap, append_assoc, subst}
use Rattle.call_plans.specs.Plans.{Plan, Done, Stop, Ask, bind, Follows, Reaches, IsDetermined, reply_in}

-- a plan that gave a value has come to what goes on from it
pub follows_bind : {C R X Y : Type 0} (fits : C → R → Type 0) (p : Plan C R X) (f : X → Plan C R Y) (steps : List (C × R)) (x : X)
    → Follows fits p steps (Some x) → Reaches fits (bind p f) steps (f x)
follows_bind fits (Done x) f [] y h more z q = subst (λ w. Follows fits (f w) more z) h q
follows_bind fits (Done x) f (s ∷ steps) y h more z q = absurd h
follows_bind fits Stop f [] y h more z q = absurd h
follows_bind fits Stop f (s ∷ steps) y h more z q = absurd h
follows_bind fits (Ask c k) f [] y h more z q = absurd h
follows_bind fits (Ask c k) f (s ∷ steps) y h more z q = (h.0, h.1, follows_bind fits (k s.1) f steps y h.2 more z q)

-- memory may run out before anything
pub cut_now : {C R X : Type 0} (fits : C → R → Type 0) (p : Plan C R X) → Follows fits p [] None
cut_now fits (Done x) = tt
cut_now fits Stop = tt
cut_now fits (Ask c k) = tt

-- a plan that was cut short cuts short what was to come after it
pub follows_cut : {C R X Y : Type 0} (fits : C → R → Type 0) (p : Plan C R X) (f : X → Plan C R Y) (steps : List (C × R))
    → Follows fits p steps None → Follows fits (bind p f) steps None
follows_cut fits (Done x) f [] h = cut_now fits (f x)
follows_cut fits (Done x) f (s ∷ steps) h = absurd h
follows_cut fits Stop f [] h = tt
follows_cut fits Stop f (s ∷ steps) h = absurd h
follows_cut fits (Ask c k) f [] h = tt
follows_cut fits (Ask c k) f (s ∷ steps) h = (h.0, h.1, follows_cut fits (k s.1) f steps h.2)

pub reaches_on : {C R X : Type 0} (fits : C → R → Type 0) (p q r : Plan C R X) (xs ys : List (C × R))
    → Reaches fits p xs q → Reaches fits q ys r → Reaches fits p (xs ++ ys) r
reaches_on fits p q r xs ys h i more y f = subst (λ w. Follows fits p w y) (sym (append_assoc xs ys more)) (h (ys ++ more) y (i more y f))

-- one plan and then another, done to its end: its steps are those of the one and then those of the other
pub follows_split : {C R X Y : Type 0} (fits : C → R → Type 0) (p : Plan C R X) (f : X → Plan C R Y) (steps : List (C × R)) (y : Y) → Follows fits (bind p f) steps (Some y)
    → (xs : List (C × R)) × (ys : List (C × R)) × (x : X) × (steps ≡ xs ++ ys) × Follows fits p xs (Some x) × Follows fits (f x) ys (Some y)
follows_split fits (Done x) f steps y h = ([], steps, x, refl, refl, h)
follows_split fits Stop f [] y h = absurd h
follows_split fits Stop f (s ∷ steps) y h = absurd h
follows_split fits (Ask c k) f [] y h = absurd h
follows_split fits (Ask c k) f (s ∷ steps) y h =
    let r = follows_split fits (k s.1) f steps y h.2 in (s ∷ r.0, r.1, r.2, ap (λ l. s ∷ l) r.3, (h.0, h.1, r.4), r.5)

-- the same where memory may have run out: in the first, or behind it
pub follows_cases : {C R X Y : Type 0} (fits : C → R → Type 0) (p : Plan C R X) (f : X → Plan C R Y) (steps : List (C × R)) (y : Option Y) → Follows fits (bind p f) steps y
    → ((y ≡ None) × Follows fits p steps None) ⊎ ((xs : List (C × R)) × (ys : List (C × R)) × (x : X) × (steps ≡ xs ++ ys) × Follows fits p xs (Some x) × Follows fits (f x) ys y)
follows_cases fits (Done x) f steps y h = inr ([], steps, x, refl, refl, h)
follows_cases fits Stop f [] None h = inl (refl, tt)
follows_cases fits Stop f [] (Some y) h = absurd h
follows_cases fits Stop f (s ∷ steps) y h = absurd h
follows_cases fits (Ask c k) f [] None h = inl (refl, tt)
follows_cases fits (Ask c k) f [] (Some y) h = absurd h
follows_cases fits (Ask c k) f (s ∷ steps) y h = elim (follows_cases fits (k s.1) f steps y h.2) [
  | inl r ↦ inl (r.0, (h.0, h.1, r.1))
  | inr r ↦ inr (s ∷ r.0, r.1, r.2, ap (λ l. s ∷ l) r.3, (h.0, h.1, r.4), r.5)
]

-- the replies determine the run
pub determined : {C R X : Type 0} (fits : C → R → Type 0) (p : Plan C R X) → IsDetermined fits p
determined fits (Done v) [] [] x y f h e = (refl, f ∙ sym h)
determined fits (Done v) [] (t ∷ ys) x y f h e = absurd h
determined fits (Done v) (s ∷ xs) ys x y f h e = absurd f
determined fits Stop [] ys x y f h e = absurd f
determined fits Stop (s ∷ xs) ys x y f h e = absurd f
determined fits (Ask c k) [] ys x y f h e = absurd f
determined fits (Ask c k) (s ∷ xs) [] x y f h e = absurd h
determined {C} {R} {X} fits (Ask c k) (s ∷ xs) (t ∷ ys) x y f h e =
    let same : s.1 ≡ t.1 = cc in
    let rest : map reply_in xs ≡ map reply_in ys = cc in
    let first : s.0 ≡ t.0 = f.0 ∙ sym h.0 in
    let later : Follows fits (k s.1) ys (Some y) = subst (λ (r : R). Follows fits (k r) ys (Some y)) (sym same) h.2 in
    let both = determined fits (k s.1) xs ys x y f.2 later rest in
    let pair : s ≡ t = λ i. (first i, same i) in
    ((λ i. pair i ∷ both.0 i), both.1)
