-- Keystores with their passwords, by their texts.
use Rattle.std.proofs.Common.{◌≡◌, ℕ, List, [], ◌∷◌, map, Result, Ok, refl, ap}
use Rattle.std.proofs.lemmas.List.{length-map}
use Rattle.key_custody.specs.Plans.{paired}
use Rattle.keymanager_routes.specs.declared.refusal.Refusal.{Refusal}
use Rattle.keymanager_routes.specs.Checks.{◌>>=◌}
use Rattle.keymanager_bodies.specs.Asking.{paired_in}

paired-map : {A : Type 0} (f : A → List ℕ) (ks ps : List A) → paired (λ text. text) (map f ks) (map f ps) ≡ paired f ks ps
paired-map f [] ps = refl
paired-map f (k ∷ ks) [] = refl
paired-map f (k ∷ ks) (p ∷ ps) = ap (λ rest. (f k, f p) ∷ rest) (paired-map f ks ps)

pub paired_in-map : {A : Type 0} (f : A → List ℕ) (ks ps : List A) → paired_in (λ text. text) (map f ks) (map f ps) ≡ paired_in f ks ps
paired_in-map f ks ps = rw (length-map ks f, length-map ps f, paired-map f ks ps) refl

-- five readings, one after another
pub five_read : {A B C D E F : Type 0} (a : Result A Refusal) (b : Result B Refusal) (c : Result C Refusal) (f : A → B → Result D Refusal) (g : C → Result E Refusal) (h : E → D → F)
    (x : A) (y : B) (z : C) (w : D) (v : E) → a ≡ Ok x → b ≡ Ok y → c ≡ Ok z → f x y ≡ Ok w → g z ≡ Ok v
    → (a >>= λ x. b >>= λ y. c >>= λ z. f x y >>= λ w. g z >>= λ v. Ok (h v w)) ≡ Ok (h v w)
five_read a b c f g h x y z w v p q r s t = rw (p, q, r, s, t) refl
