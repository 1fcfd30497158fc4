-- Laws of two things kept by key, the same keys in the same places.
use Rattle.std.proofs.Common.{◌≡◌, suc, Bool, true, false, cond, List, [], ◌∷◌, length, Option, Some, None, refl, sym, ◌∙◌, ap, subst}
use Rattle.std.specs.Prelude.{IsSome, is_some}
use Rattle.std.specs.BTreeMap.{is_at}
use Rattle.std.specs.Map.{keys_of}
use Rattle.edge_kit.specs.declared.bytes.PubKey.{PubKey}
use Rattle.record_join.specs.Keys.{key_cmp, kept_of, EachKey}

none_some : {X : Type 0} (b : X) → None ≡ Some b → ⊥
none_some b h = cc

some_inj : {X : Type 0} (a b : X) → Some a ≡ Some b → a ≡ b
some_inj a b h = cc

-- what is kept of a key in the one is kept in the other
pub each_found : {X Y : Type 0} (R : X → Y → Type 0) (xs : List (PubKey × X)) (ys : List (PubKey × Y)) (k : PubKey) (x : X) → EachKey R xs ys → kept_of xs k ≡ Some x
    → (y : Y) × (kept_of ys k ≡ Some y) × R x y
each_found R [] [] k x h e = absurd (none_some x e)
each_found R [] (b ∷ bs) k x h e = absurd h
each_found R (a ∷ more) [] k x h e = absurd h
each_found {X} {Y} R (a ∷ more) (b ∷ bs) k x h e = at (is_at (key_cmp k) a.0) (is_at (key_cmp k) b.0) (ap (λ q. is_at (key_cmp k) q) h.0) e (each_found R more bs k x h.2) where
  at : (t u : Bool) → t ≡ u → cond t (Some a.1) (kept_of more k) ≡ Some x → (kept_of more k ≡ Some x → (y : Y) × (kept_of bs k ≡ Some y) × R x y)
      → (y : Y) × (cond u (Some b.1) (kept_of bs k) ≡ Some y) × R x y
  at true true same e rest = let P : X → Type 0 = λ z. R z b.1 in (b.1, refl, subst P (some_inj a.1 x e) h.1)
  at false false same e rest = rest e
  at true false same e rest = absurd (let bad : true ≡ false = same in cc)
  at false true same e rest = absurd (let bad : false ≡ true = same in cc)

-- what is not kept in the one is not kept in the other
pub each_none : {X Y : Type 0} (R : X → Y → Type 0) (xs : List (PubKey × X)) (ys : List (PubKey × Y)) (k : PubKey) → EachKey R xs ys → kept_of xs k ≡ None → kept_of ys k ≡ None
each_none R [] [] k h e = refl
each_none R [] (b ∷ bs) k h e = absurd h
each_none R (a ∷ more) [] k h e = absurd h
each_none {X} {Y} R (a ∷ more) (b ∷ bs) k h e = at (is_at (key_cmp k) a.0) (is_at (key_cmp k) b.0) (ap (λ q. is_at (key_cmp k) q) h.0) e (each_none R more bs k h.2) where
  at : (t u : Bool) → t ≡ u → cond t (Some a.1) (kept_of more k) ≡ None → (kept_of more k ≡ None → kept_of bs k ≡ None) → cond u (Some b.1) (kept_of bs k) ≡ None
  at true true same e rest = absurd (none_some a.1 (sym e))
  at false false same e rest = rest e
  at true false same e rest = absurd (let bad : true ≡ false = same in cc)
  at false true same e rest = absurd (let bad : false ≡ true = same in cc)

none_if : {X : Type 0} (o : Option X) → is_some o ≡ false → o ≡ None
none_if None e = refl
none_if (Some x) e = absurd (let bad : true ≡ false = e in cc)

some_if : {X : Type 0} (o : Option X) → is_some o ≡ true → (x : X) × (o ≡ Some x)
some_if None e = absurd (let bad : false ≡ true = e in cc)
some_if (Some x) e = (x, refl)

pub each_absent : {X Y : Type 0} (R : X → Y → Type 0) (xs : List (PubKey × X)) (ys : List (PubKey × Y)) (k : PubKey) → EachKey R xs ys → is_some (kept_of xs k) ≡ false → kept_of ys k ≡ None
each_absent R xs ys k h e = each_none R xs ys k h (none_if (kept_of xs k) e)

pub each_present : {X Y : Type 0} (R : X → Y → Type 0) (xs : List (PubKey × X)) (ys : List (PubKey × Y)) (k : PubKey) → EachKey R xs ys → is_some (kept_of xs k) ≡ true → IsSome (kept_of ys k)
each_present R xs ys k h e = let found = some_if (kept_of xs k) e in let other = each_found R xs ys k found.0 h found.1 in rw other.1 refl

pub each_length : {X Y : Type 0} (R : X → Y → Type 0) (xs : List (PubKey × X)) (ys : List (PubKey × Y)) → EachKey R xs ys → length xs ≡ length ys
each_length R [] [] h = refl
each_length R [] (b ∷ bs) h = absurd h
each_length R (a ∷ more) [] h = absurd h
each_length R (a ∷ more) (b ∷ bs) h = ap (λ n. suc n) (each_length R more bs h.2)

-- the two lists in each other's place
pub each_flip : {X Y : Type 0} (R : X → Y → Type 0) (xs : List (PubKey × X)) (ys : List (PubKey × Y)) → EachKey R xs ys → EachKey (λ y x. R x y) ys xs
each_flip R [] [] h = tt
each_flip R [] (b ∷ bs) h = absurd h
each_flip R (a ∷ more) [] h = absurd h
each_flip R (a ∷ more) (b ∷ bs) h = (sym h.0, h.1, each_flip R more bs h.2)

pub each_keys : {X Y : Type 0} (R : X → Y → Type 0) (xs : List (PubKey × X)) (ys : List (PubKey × Y)) → EachKey R xs ys → keys_of xs ≡ keys_of ys
each_keys R [] [] h = refl
each_keys R [] (b ∷ bs) h = absurd h
each_keys R (a ∷ more) [] h = absurd h
each_keys R (a ∷ more) (b ∷ bs) h = ap (λ k. k ∷ keys_of more) h.0 ∙ ap (λ ks. b.0 ∷ ks) (each_keys R more bs h.2)
