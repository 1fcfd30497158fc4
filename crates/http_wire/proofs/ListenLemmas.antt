-- Calls that listen follow one another.
use Rattle.std.proofs.Common.{ℕ, ◌≤◌, List, Option, Some, None, refl, ◌∙◌, arith}
use Rattle.edge_kit.specs.Links.{Stays}
use Rattle.http_wire.specs.Listening.{OnlyListens, OnlySpeaks}

pub Stays-same : {X : Type 0} (a : Option X) → Stays a a
Stays-same None = tt
Stays-same (Some x) = refl

pub Stays-trans : {X : Type 0} (a b c : Option X) → Stays a b → Stays b c → Stays a c
Stays-trans None b c p q = tt
Stays-trans (Some x) None c p q = absurd p
Stays-trans (Some x) (Some y) None p q = absurd q
Stays-trans (Some x) (Some y) (Some z) p q = q ∙ p

pub listens-same : (h : Option (List ℕ)) (c : Option (List (List ℕ))) (f : ℕ) → OnlyListens h h c c f f
listens-same h c f = record { held = Stays-same h; coming = Stays-same c; later = omega arith }

pub listens-trans : {h i j : Option (List ℕ)} {c d e : Option (List (List ℕ))} {f k m : ℕ} → OnlyListens h i c d f k → OnlyListens i j d e k m → OnlyListens h j c e f m
listens-trans {h} {i} {j} {c} {d} {e} {f} {k} {m} p q = record {
  held = Stays-trans h i j p.held q.held;
  coming = Stays-trans c d e p.coming q.coming;
  later = let a : f ≤ k = p.later in let b : k ≤ m = q.later in omega arith;
}

pub speaks-trans : {h i j : Option (List ℕ)} {c d e : Option (List (List ℕ))} {f k m : ℕ} → OnlySpeaks h i c d f k → OnlySpeaks i j d e k m → OnlySpeaks h j c e f m
speaks-trans {h} {i} {j} {c} {d} {e} {f} {k} {m} p q = record {
  left = Stays-trans h i j p.left q.left;
  coming = Stays-trans c d e p.coming q.coming;
  later = let a : f ≤ k = p.later in let b : k ≤ m = q.later in omega arith;
}

pub speaks-same : (h : Option (List ℕ)) (c : Option (List (List ℕ))) (f : ℕ) → OnlySpeaks h h c c f f
speaks-same h c f = record { left = Stays-same h; coming = Stays-same c; later = omega arith }
