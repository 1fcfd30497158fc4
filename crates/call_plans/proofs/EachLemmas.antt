-- A plan for each of a list, carried out up to some place.
use Rattle.std.proofs.Common.{◌≡◌, ℕ, ◌+◌, ◌<◌, ◌≤◌, List, [], ◌∷◌, ◌++◌, length, drop, get_or, Some, None, refl, sym, subst}
use Rattle.std.proofs.lemmas.List.{at_drop_more, at_drop_all}
use Rattle.call_plans.specs.Plans.{Plan, Done, each_plan}
use Rattle.call_plans.specs.Paths.{Carries, Comes}
use Rattle.call_plans.proofs.PathLemmas.{comes_on, comes_cut, comes_end}

module _ {S C R A X : Type 0} (fits : C → R → Type 0) (does : S → C × R → S → Type 0) (plan : A → Plan C R X) where
  -- what is left begins with an element, and its plan was carried out
  pub each_next : (a b c : S) (p : Plan C R (List X)) (got items : List X) (left : List A) (one : A) (more : List A) (x : X)
      → left ≡ one ∷ more → items ≡ got ++ x ∷ []
      → Comes fits does p (each_plan plan got left) a b → Carries fits does (plan one) b c (Some x)
      → Comes fits does p (each_plan plan items more) a c
  each_next a b c p got items left one more x h e g run =
      subst (λ l. Comes fits does p (each_plan plan l more) a c) (sym e)
      (comes_on fits does a b c p (plan one) (λ y. each_plan plan (got ++ y ∷ []) more) x
      (subst (λ l. Comes fits does p (each_plan plan got l) a b) h g) run)

  -- memory ran out in its plan
  pub each_short : (a b c : S) (p : Plan C R (List X)) (got : List X) (left : List A) (one : A) (more : List A)
      → left ≡ one ∷ more → Comes fits does p (each_plan plan got left) a b → Carries fits does (plan one) b c None → Carries fits does p a c None
  each_short a b c p got left one more h g run =
      comes_cut fits does a b c p (plan one) (λ y. each_plan plan (got ++ y ∷ []) more) (subst (λ l. Comes fits does p (each_plan plan got l) a b) h g) run

  -- nothing is left
  pub each_over : (a b : S) (p : Plan C R (List X)) (got : List X) (left : List A)
      → left ≡ [] → Comes fits does p (each_plan plan got left) a b → Carries fits does p a b (Some got)
  each_over a b p got left h g = comes_end fits does a b p (Done got) (Some got) (subst (λ l. Comes fits does p (each_plan plan got l) a b) h g) refl

  -- the same by the place in the list
  pub each_step : (a b c : S) (p : Plan C R (List X)) (got items : List X) (xs : List A) (i : ℕ) (d : A) (x : X)
      → i < length xs → items ≡ got ++ x ∷ []
      → Comes fits does p (each_plan plan got (drop i xs)) a b → Carries fits does (plan (get_or xs i d)) b c (Some x)
      → Comes fits does p (each_plan plan items (drop (i + 1) xs)) a c
  each_step a b c p got items xs i d x h e g run = each_next a b c p got items (drop i xs) (get_or xs i d) (drop (i + 1) xs) x (at_drop_more (λ l. l) xs i d h) e g run

  pub each_cut : (a b c : S) (p : Plan C R (List X)) (got : List X) (xs : List A) (i : ℕ) (d : A)
      → i < length xs → Comes fits does p (each_plan plan got (drop i xs)) a b → Carries fits does (plan (get_or xs i d)) b c None → Carries fits does p a c None
  each_cut a b c p got xs i d h g run = each_short a b c p got (drop i xs) (get_or xs i d) (drop (i + 1) xs) (at_drop_more (λ l. l) xs i d h) g run

  pub each_done : (a b : S) (p : Plan C R (List X)) (got : List X) (xs : List A) (i : ℕ)
      → length xs ≤ i → Comes fits does p (each_plan plan got (drop i xs)) a b → Carries fits does p a b (Some got)
  each_done a b p got xs i h g = each_over a b p got (drop i xs) (at_drop_all (λ l. l) xs i h) g
