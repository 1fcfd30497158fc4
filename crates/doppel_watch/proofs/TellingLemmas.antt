-- What one more telling makes of what counts.
use Rattle.std.proofs.Common.{◌≡◌, ◌≢◌, ◌≤◌, inl, inr, arith, ℕ, ◌==◌, ◌||◌, ◌&&◌, not, nat_lt, max, Bool, true, false, List, [], ◌∷◌, ◌++◌, refl, ap, ◌∙◌}
use Rattle.std.specs.List.{list_any}
use Rattle.std.proofs.lemmas.Bool.{cases_eq, eq-eqb, ne_eqb, le-ltb, and_left, and_right}
use Rattle.std.proofs.lemmas.List.Folds.{list_any-append}
use Rattle.doppel_watch.specs.Watching.{Telling, latest, counted, was_live, was_absent}

or-false : (a : Bool) → (a || false) ≡ a
or-false true = refl
or-false false = refl

and-true : (a b : Bool) → b ≡ true → (a && b) ≡ a
and-true true b h = h
and-true false b h = refl

-- whether one passes of a list with one more
pub any-push : {X : Type 0} (p : X → Bool) (xs : List X) (x : X) → list_any p (xs ++ x ∷ []) ≡ (list_any p xs || p x)
any-push p xs x = list_any-append p xs (x ∷ []) ∙ ap (λ b. list_any p xs || b) (or-false (p x))

-- and where it does not pass
any-push_none : {X : Type 0} (p : X → Bool) (xs : List X) (x : X) → p x ≡ false → list_any p (xs ++ x ∷ []) ≡ list_any p xs
any-push_none p xs x none = any-push p xs x ∙ ap (λ b. list_any p xs || b) none ∙ or-false (list_any p xs)

pub latest-push : (s : ℕ) (ts : List Telling) (t : Telling) → latest s (ts ++ t ∷ []) ≡ max (latest s ts) t.moment
latest-push s [] t = refl
latest-push s (x ∷ ts) t = latest-push (max s x.moment) ts t

abbrev pub at_its_moment : ℕ → List Telling → Telling → Telling
at_its_moment s ts t = record t { moment = max (latest s ts) t.moment }

pub counted-push : (s : ℕ) (ts : List Telling) (t : Telling) → counted s (ts ++ t ∷ []) ≡ counted s ts ++ at_its_moment s ts t ∷ []
counted-push s [] t = refl
counted-push s (x ∷ ts) t = ap (λ (rest : List Telling). record x { moment = max s x.moment } ∷ rest) (counted-push (max s x.moment) ts t)

pub was_live-push : (e : ℕ) (ts : List Telling) (t : Telling) → t.epoch ≡ e → was_live e (ts ++ t ∷ []) ≡ (was_live e ts || t.live)
was_live-push e ts t is =
    any-push (λ t. t.live && t.epoch == e) ts t ∙ ap (λ b. was_live e ts || b) (and-true t.live (t.epoch == e) (eq-eqb t.epoch e is))

pub was_live-push_other : (e : ℕ) (ts : List Telling) (t : Telling) → t.epoch ≢ e → was_live e (ts ++ t ∷ []) ≡ was_live e ts
was_live-push_other e ts t other = any-push_none (λ t. t.live && t.epoch == e) ts t (and_right t.live (t.epoch == e) (ne_eqb t.epoch e other))

pub was_live-push_not : (e : ℕ) (ts : List Telling) (t : Telling) → t.live ≡ false → was_live e (ts ++ t ∷ []) ≡ was_live e ts
was_live-push_not e ts t absent = any-push_none (λ t. t.live && t.epoch == e) ts t (and_left t.live (t.epoch == e) absent)

abbrev pub is_absence : ℕ → Telling → Bool
is_absence e t = not t.live && t.epoch == e && nat_lt e t.moment

pub was_absent-push : (s e : ℕ) (ts : List Telling) (t : Telling) → t.epoch ≡ e
    → was_absent s e (ts ++ t ∷ []) ≡ (was_absent s e ts || (not t.live && nat_lt e (max (latest s ts) t.moment)))
was_absent-push s e ts t is =
    ap (list_any (is_absence e)) (counted-push s ts t)
    ∙ any-push (is_absence e) (counted s ts) (at_its_moment s ts t)
    ∙ ap (λ b. was_absent s e ts || (b && nat_lt e (max (latest s ts) t.moment))) (and-true (not t.live) (t.epoch == e) (eq-eqb t.epoch e is))

was_absent-push_none : (s e : ℕ) (ts : List Telling) (t : Telling) → is_absence e (at_its_moment s ts t) ≡ false → was_absent s e (ts ++ t ∷ []) ≡ was_absent s e ts
was_absent-push_none s e ts t none =
    ap (list_any (is_absence e)) (counted-push s ts t) ∙ any-push_none (is_absence e) (counted s ts) (at_its_moment s ts t) none

pub was_absent-push_other : (s e : ℕ) (ts : List Telling) (t : Telling) → t.epoch ≢ e → was_absent s e (ts ++ t ∷ []) ≡ was_absent s e ts
was_absent-push_other s e ts t other =
    was_absent-push_none s e ts t (and_left (not t.live && t.epoch == e) _ (and_right (not t.live) (t.epoch == e) (ne_eqb t.epoch e other)))

-- a telling that is not later than its epoch tells no absence
pub was_absent-push_early : (s e : ℕ) (ts : List Telling) (t : Telling) → max (latest s ts) t.moment ≤ t.epoch → was_absent s e (ts ++ t ∷ []) ≡ was_absent s e ts
was_absent-push_early s e ts t early = elim (cases_eq t.epoch e) [
  | inl is ↦ was_absent-push_none s e ts t (and_right (not t.live && t.epoch == e) _ (le-ltb e (max (latest s ts) t.moment) (omega arith)))
  | inr other ↦ was_absent-push_other s e ts t other
]
