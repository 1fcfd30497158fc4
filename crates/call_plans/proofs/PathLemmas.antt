-- Plans carried out, one after another.
use Rattle.std.proofs.Common.{List, [], ◌∷◌, ◌++◌, Option, Some, None, refl, subst}
use Rattle.std.proofs.lemmas.List.{append-nil}
use Rattle.call_plans.specs.Plans.{Plan, Ask, bind, Follows}
use Rattle.call_plans.specs.Paths.{Path, Carries, Comes}
use Rattle.call_plans.proofs.PlanLemmas.{follows_bind, follows_cut, cut_now, reaches_on}

pub path_on : {S E : Type 0} (does : S → E → S → Type 0) (a b c : S) (xs ys : List E) → Path does a xs b → Path does b ys c → Path does a (xs ++ ys) c
path_on {S} {E} does a b c [] ys p q = subst (λ (x : S). Path does x ys c) p q
path_on does a b c (e ∷ xs) ys p q = (p.0, p.1, path_on does p.0 b c xs ys p.2 q)

pub path_split : {S E : Type 0} (does : S → E → S → Type 0) (a b : S) (xs ys : List E) → Path does a (xs ++ ys) b → (m : S) × Path does a xs m × Path does m ys b
path_split does a b [] ys p = (a, refl, p)
path_split does a b (e ∷ xs) ys p = let r = path_split does p.0 b xs ys p.2 in (r.0, (p.0, p.1, r.1), r.2)

module _ {S C R : Type 0} (fits : C → R → Type 0) (does : S → C × R → S → Type 0) where
  -- no call more
  pub carries_end : {X : Type 0} (plan : Plan C R X) (a : S) (v : Option X) → Follows fits plan [] v → Carries fits does plan a a v
  carries_end plan a v f = record { steps = []; path = refl; follows = f }

  -- memory ran out before anything
  pub carries_cut : {X : Type 0} (plan : Plan C R X) (a : S) → Carries fits does plan a a None
  carries_cut plan a = carries_end plan a None (cut_now fits plan)

  -- a call, and then what follows by its reply
  pub carries_step : {X : Type 0} (c : C) (r : R) (k : R → Plan C R X) (a m b : S) (v : Option X)
      → does a (c, r) m → fits c r → Carries fits does (k r) m b v → Carries fits does (Ask c k) a b v
  carries_step c r k a m b v d fit rest = record { steps = (c, r) ∷ rest.steps; path = (m, d, rest.path); follows = (refl, fit, rest.follows) }

  -- one plan and then another
  pub carries_on : {X Y : Type 0} (a b c : S) (q : Plan C R X) (f : X → Plan C R Y) (x : X) (v : Option Y)
      → Carries fits does q a b (Some x) → Carries fits does (f x) b c v → Carries fits does (bind q f) a c v
  carries_on a b c q f x v r s = record {
    steps = r.steps ++ s.steps;
    path = path_on does a b c r.steps s.steps r.path s.path;
    follows = follows_bind fits q f r.steps x r.follows s.steps v s.follows;
  }

  -- memory ran out in the first
  pub carries_short : {X Y : Type 0} (a b : S) (q : Plan C R X) (f : X → Plan C R Y) → Carries fits does q a b None → Carries fits does (bind q f) a b None
  carries_short a b q f r = record { steps = r.steps; path = r.path; follows = follows_cut fits q f r.steps r.follows }

  -- nothing is done yet
  pub comes_none : {X : Type 0} (plan : Plan C R X) (a : S) → Comes fits does plan plan a a
  comes_none plan a = record { steps = []; path = refl; reaches = λ more y f. f }

  -- the next part was carried out to its end
  pub comes_on : {X Y : Type 0} (a b c : S) (p : Plan C R Y) (q : Plan C R X) (f : X → Plan C R Y) (x : X)
      → Comes fits does p (bind q f) a b → Carries fits does q b c (Some x) → Comes fits does p (f x) a c
  comes_on a b c p q f x g r = record {
    steps = g.steps ++ r.steps;
    path = path_on does a b c g.steps r.steps g.path r.path;
    reaches = reaches_on fits p (bind q f) (f x) g.steps r.steps g.reaches (follows_bind fits q f r.steps x r.follows);
  }

  -- memory ran out in the next part
  pub comes_cut : {X Y : Type 0} (a b c : S) (p : Plan C R Y) (q : Plan C R X) (f : X → Plan C R Y)
      → Comes fits does p (bind q f) a b → Carries fits does q b c None → Carries fits does p a c None
  comes_cut a b c p q f g r = record {
    steps = g.steps ++ r.steps;
    path = path_on does a b c g.steps r.steps g.path r.path;
    follows = g.reaches r.steps None (follows_cut fits q f r.steps r.follows);
  }

  -- what is left was carried out
  pub comes_run : {X : Type 0} (a b c : S) (p q : Plan C R X) (v : Option X) → Comes fits does p q a b → Carries fits does q b c v → Carries fits does p a c v
  comes_run a b c p q v g r = record {
    steps = g.steps ++ r.steps;
    path = path_on does a b c g.steps r.steps g.path r.path;
    follows = g.reaches r.steps v r.follows;
  }

  -- the end is reached, or memory ran out
  pub comes_end : {X : Type 0} (a b : S) (p q : Plan C R X) (v : Option X) → Comes fits does p q a b → Follows fits q [] v → Carries fits does p a b v
  comes_end a b p q v g f = record {
    steps = g.steps;
    path = g.path;
    follows = subst (λ l. Follows fits p l v) (append-nil g.steps) (g.reaches [] v f);
  }
