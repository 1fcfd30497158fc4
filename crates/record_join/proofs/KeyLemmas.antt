-- Two things kept by key, changed alike.
use Rattle.std.proofs.Common.{◌≡◌, Bool, true, false, cond, List, [], ◌∷◌, Some, refl, sym, ◌∙◌, ap}
use Rattle.std.specs.Ordering.{match_ordering}
use Rattle.std.specs.declared.cmp.Ordering.{Ordering}
use Rattle.std.specs.declared.cmp.Ordering.TheVariants.{Less, Equal, Greater}
use Rattle.std.specs.BTreeMap.{is_at}
use Rattle.std.specs.Map.{remove_entry}
use Rattle.edge_kit.specs.declared.bytes.PubKey.{PubKey}
use Rattle.record_join.specs.Keys.{key_cmp, kept_of, with_key, with_kept, EachKey}
pub use Rattle.record_join.specs.EachKeyLaws.{each_found, each_none, each_absent, each_present, each_length, each_flip, each_keys}

-- a new key in both
pub each_new : {X Y : Type 0} (R : X → Y → Type 0) (xs : List (PubKey × X)) (ys : List (PubKey × Y)) (k : PubKey) (x : X) (y : Y) → EachKey R xs ys → R x y → EachKey R (with_key xs k x) (with_key ys k y)
each_new R [] [] k x y h r = (refl, r, tt)
each_new R [] (b ∷ bs) k x y h r = absurd h
each_new R (a ∷ more) [] k x y h r = absurd h
each_new {X} {Y} R (a ∷ more) (b ∷ bs) k x y h r = at (key_cmp k a.0) (key_cmp k b.0) (ap (λ q. key_cmp k q) h.0) (each_new R more bs k x y h.2 r) where
  at : (t u : Ordering) → t ≡ u → EachKey R (with_key more k x) (with_key bs k y)
      → EachKey R (match_ordering t ((k, x) ∷ a ∷ more) ((a.0, x) ∷ more) (a ∷ with_key more k x)) (match_ordering u ((k, y) ∷ b ∷ bs) ((b.0, y) ∷ bs) (b ∷ with_key bs k y))
  at Less Less same rest = (refl, r, h)
  at Equal Equal same rest = (h.0, r, h.2)
  at Greater Greater same rest = (h.0, h.1, rest)
  at Less Equal same rest = absurd (let bad : Less ≡ Equal = same in cc)
  at Less Greater same rest = absurd (let bad : Less ≡ Greater = same in cc)
  at Equal Less same rest = absurd (let bad : Equal ≡ Less = same in cc)
  at Equal Greater same rest = absurd (let bad : Equal ≡ Greater = same in cc)
  at Greater Less same rest = absurd (let bad : Greater ≡ Less = same in cc)
  at Greater Equal same rest = absurd (let bad : Greater ≡ Equal = same in cc)

-- another thing at a key in both
pub each_changed : {X Y : Type 0} (R : X → Y → Type 0) (xs : List (PubKey × X)) (ys : List (PubKey × Y)) (k : PubKey) (x : X) (y : Y) → EachKey R xs ys → R x y → EachKey R (with_kept xs k x) (with_kept ys k y)
each_changed R [] [] k x y h r = tt
each_changed R [] (b ∷ bs) k x y h r = absurd h
each_changed R (a ∷ more) [] k x y h r = absurd h
each_changed {X} {Y} R (a ∷ more) (b ∷ bs) k x y h r = at (is_at (key_cmp k) a.0) (is_at (key_cmp k) b.0) (ap (λ q. is_at (key_cmp k) q) h.0) (each_changed R more bs k x y h.2 r) where
  at : (t u : Bool) → t ≡ u → EachKey R (with_kept more k x) (with_kept bs k y)
      → EachKey R (cond t ((a.0, x) ∷ more) (a ∷ with_kept more k x)) (cond u ((b.0, y) ∷ bs) (b ∷ with_kept bs k y))
  at true true same rest = (h.0, r, h.2)
  at false false same rest = (h.0, h.1, rest)
  at true false same rest = absurd (let bad : true ≡ false = same in cc)
  at false true same rest = absurd (let bad : false ≡ true = same in cc)

-- another thing at a key in the one alone, that fits what the other keeps there
pub each_refit : {X Y : Type 0} (R : X → Y → Type 0) (xs : List (PubKey × X)) (ys : List (PubKey × Y)) (k : PubKey) (x : X) → EachKey R xs ys
    → ((y : Y) → kept_of ys k ≡ Some y → R x y) → EachKey R (with_kept xs k x) ys
each_refit R [] [] k x h r = tt
each_refit R [] (b ∷ bs) k x h r = absurd h
each_refit R (a ∷ more) [] k x h r = absurd h
each_refit {X} {Y} R (a ∷ more) (b ∷ bs) k x h r = at (is_at (key_cmp k) a.0) (is_at (key_cmp k) b.0) (ap (λ q. is_at (key_cmp k) q) h.0) r (each_refit R more bs k x h.2) where
  at : (t u : Bool) → t ≡ u → ((y : Y) → cond u (Some b.1) (kept_of bs k) ≡ Some y → R x y) → (((y : Y) → kept_of bs k ≡ Some y → R x y) → EachKey R (with_kept more k x) bs)
      → EachKey R (cond t ((a.0, x) ∷ more) (a ∷ with_kept more k x)) (b ∷ bs)
  at true true same r rest = (h.0, r b.1 refl, h.2)
  at false false same r rest = (h.0, h.1, rest r)
  at true false same r rest = absurd (let bad : true ≡ false = same in cc)
  at false true same r rest = absurd (let bad : false ≡ true = same in cc)

-- a third list in the place of the first
pub each_through : {X Y Z : Type 0} (R : X → Z → Type 0) (S : X → Y → Type 0) (T : Y → Z → Type 0) → ((x : X) (y : Y) (z : Z) → R x z → S x y → T y z)
    → (xs : List (PubKey × X)) (ys : List (PubKey × Y)) (zs : List (PubKey × Z)) → EachKey R xs zs → EachKey S xs ys → EachKey T ys zs
each_through R S T f [] [] [] h s = tt
each_through R S T f [] (b ∷ bs) zs h s = absurd s
each_through R S T f (a ∷ more) [] zs h s = absurd s
each_through R S T f [] [] (z ∷ zs) h s = absurd h
each_through R S T f (a ∷ more) (b ∷ bs) [] h s = absurd h
each_through R S T f (a ∷ more) (b ∷ bs) (z ∷ zs) h s = (sym s.0 ∙ h.0, f a.1 b.1 z.1 h.1 s.1, each_through R S T f more bs zs h.2 s.2)

pub each_self : {X : Type 0} (R : X → X → Type 0) → ((x : X) → R x x) → (xs : List (PubKey × X)) → EachKey R xs xs
each_self R f [] = tt
each_self R f (a ∷ more) = (refl, f a.1, each_self R f more)

-- another thing at a key in the second alone
pub each_refit_second : {X Y : Type 0} (R : X → Y → Type 0) (xs : List (PubKey × X)) (ys : List (PubKey × Y)) (k : PubKey) (y : Y) → EachKey R xs ys
    → ((x : X) → kept_of xs k ≡ Some x → R x y) → EachKey R xs (with_kept ys k y)
each_refit_second {X} {Y} R xs ys k y h r = each_flip (λ b a. R a b) (with_kept ys k y) xs (each_refit (λ b a. R a b) ys xs k y (each_flip R xs ys h) r)

-- a key taken out of both
pub each_removed : {X Y : Type 0} (R : X → Y → Type 0) (xs : List (PubKey × X)) (ys : List (PubKey × Y)) (k : PubKey) → EachKey R xs ys
    → EachKey R (remove_entry (is_at (key_cmp k)) xs) (remove_entry (is_at (key_cmp k)) ys)
each_removed R [] [] k h = tt
each_removed R [] (b ∷ bs) k h = absurd h
each_removed R (a ∷ more) [] k h = absurd h
each_removed {X} {Y} R (a ∷ more) (b ∷ bs) k h = at (is_at (key_cmp k) a.0) (is_at (key_cmp k) b.0) (ap (λ q. is_at (key_cmp k) q) h.0) (each_removed R more bs k h.2) where
  at : (t u : Bool) → t ≡ u → EachKey R (remove_entry (is_at (key_cmp k)) more) (remove_entry (is_at (key_cmp k)) bs)
      → EachKey R (cond t more (a ∷ remove_entry (is_at (key_cmp k)) more)) (cond u bs (b ∷ remove_entry (is_at (key_cmp k)) bs))
  at true true same rest = h.2
  at false false same rest = (h.0, h.1, rest)
  at true false same rest = absurd (let bad : true ≡ false = same in cc)
  at false true same rest = absurd (let bad : false ≡ true = same in cc)
