-- Where a key stands among others, and what is kept of one where another changes.
use Rattle.std.proofs.Common.{◌≡◌, suc, Bool, true, false, cond, List, [], ◌∷◌, ◌++◌, length, Some, None, refl, sym, ◌∙◌, ap}
use Rattle.std.specs.Prelude.{IsSome, Option}
use Rattle.std.specs.Ordering.{is_eq, match_ordering}
use Rattle.std.specs.BTreeMap.{is_at}
use Rattle.std.specs.declared.cmp.Ordering.{Ordering}
use Rattle.std.specs.declared.cmp.Ordering.TheVariants.{Less, Equal, Greater}
use Rattle.std.proofs.lemmas.Cmp.{tied_itself}
use Rattle.std.specs.Option.{option_or}
use Rattle.edge_kit.specs.declared.bytes.PubKey.{PubKey}
use Rattle.record_join.specs.Keys.{key_cmp, kept_of, with_key, with_kept}
pub use Rattle.record_join.specs.KeyLaws.{key_total, key_exact, at_itself, same_key, apart_back, kept_here, kept_apart, taken_out, put_kept, changed, kept_append, once_before}

-- what is put last at a key stays
pub put_twice : {X : Type 0} (xs : List (PubKey × X)) (k : PubKey) (x y : X) → with_key (with_key xs k x) k y ≡ with_key xs k y
put_twice [] k x y = rw (tied_itself key_total k) refl
put_twice {X} (a ∷ more) k x y = at (key_cmp k a.0) refl (put_twice more k x y) where
  at : (r : Ordering) → key_cmp k a.0 ≡ r → with_key (with_key more k x) k y ≡ with_key more k y
      → with_key (match_ordering r ((k, x) ∷ a ∷ more) ((a.0, x) ∷ more) (a ∷ with_key more k x)) k y ≡ match_ordering r ((k, y) ∷ a ∷ more) ((a.0, y) ∷ more) (a ∷ with_key more k y)
  at Less is rest = rw (tied_itself key_total k) refl
  at Equal is rest = rw is refl
  at Greater is rest = rw is (ap (λ l. a ∷ l) rest)

pub changed_here : {X : Type 0} (xs : List (PubKey × X)) (k : PubKey) (x : X) → IsSome (kept_of xs k) → kept_of (with_kept xs k x) k ≡ Some x
changed_here xs k x h = changed xs k k x h ∙ rw (at_itself k) refl

none_of_both : {X : Type 0} (o p : Option X) → option_or o p ≡ None → (o ≡ None) × (p ≡ None)
none_of_both None p e = (refl, e)
none_of_both (Some x) p e = absurd (let bad : Some x ≡ None = e in cc)

some_of_first : {X : Type 0} (o p : Option X) → IsSome o → IsSome (option_or o p)
some_of_first None p found = let bad : false ≡ true = found in cc
some_of_first (Some x) p found = refl

some_of_second : {X : Type 0} (o p : Option X) → IsSome p → IsSome (option_or o p)
some_of_second None p found = found
some_of_second (Some x) p found = refl

pub none_in_both : {X : Type 0} (xs ys : List (PubKey × X)) (k : PubKey) → kept_of (xs ++ ys) k ≡ None → (kept_of xs k ≡ None) × (kept_of ys k ≡ None)
none_in_both xs ys k e = none_of_both (kept_of xs k) (kept_of ys k) (sym (kept_append xs ys k) ∙ e)

pub some_in_first : {X : Type 0} (xs ys : List (PubKey × X)) (k : PubKey) → IsSome (kept_of xs k) → IsSome (kept_of (xs ++ ys) k)
some_in_first xs ys k found = rw (kept_append xs ys k) (some_of_first (kept_of xs k) (kept_of ys k) found)

pub some_in_second : {X : Type 0} (xs ys : List (PubKey × X)) (k : PubKey) → IsSome (kept_of ys k) → IsSome (kept_of (xs ++ ys) k)
some_in_second xs ys k found = rw (kept_append xs ys k) (some_of_second (kept_of xs k) (kept_of ys k) found)

-- a first key of which nothing is looked for is another
pub apart_from_first : {X : Type 0} (a : PubKey × X) (more : List (PubKey × X)) (k : PubKey) → kept_of (a ∷ more) k ≡ None → is_at (key_cmp k) a.0 ≡ false
apart_from_first {X} a more k e = at (is_at (key_cmp k) a.0) e where
  at : (b : Bool) → cond b (Some a.1) (kept_of more k) ≡ None → b ≡ false
  at true h = absurd (let bad : Some a.1 ≡ None = h in cc)
  at false h = refl

pub length_new : {X : Type 0} (xs : List (PubKey × X)) (k : PubKey) (x : X) → kept_of xs k ≡ None → length (with_key xs k x) ≡ suc (length xs)
length_new [] k x none = refl
length_new {X} (a ∷ more) k x none = at (key_cmp k a.0) none (length_new more k x) where
  at : (r : Ordering) → cond (is_eq r) (Some a.1) (kept_of more k) ≡ None → (kept_of more k ≡ None → length (with_key more k x) ≡ suc (length more))
      → length (match_ordering r ((k, x) ∷ a ∷ more) ((a.0, x) ∷ more) (a ∷ with_key more k x)) ≡ suc (suc (length more))
  at Less absent rest = refl
  at Equal absent rest = absurd (let bad : Some a.1 ≡ None = absent in cc)
  at Greater absent rest = ap (λ n. suc n) (rest absent)
