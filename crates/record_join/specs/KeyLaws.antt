-- Laws of keys in order, and of what is kept of one where another changes.
use Rattle.std.proofs.Common.{◌≡◌, Bool, true, false, cond, List, [], ◌∷◌, ◌++◌, Some, None, refl, sym, ◌∙◌, ap, subst}
use Rattle.std.specs.Prelude.{IsSome, Option, is_some}
use Rattle.std.specs.Ordering.{is_eq, eq_by_cmp, match_ordering}
use Rattle.std.specs.Cmp.{IsTotalOrder}
use Rattle.std.specs.BTreeMap.{is_at}
use Rattle.std.specs.Map.{keys_of, remove_entry}
use Rattle.std.specs.List.Sorted.{IsStrictlySortedBy}
use Rattle.std.specs.declared.cmp.Ordering.{Ordering}
use Rattle.std.specs.declared.cmp.Ordering.TheVariants.{Less, Equal, Greater}
use Rattle.std.proofs.lemmas.Cmp.{on_total, nat_list_cmp_total, tied_itself, eq_by_cmp_equiv}
use Rattle.std.proofs.lemmas.Map.{lookup-set_value, lookup-none}
use Rattle.std.proofs.lemmas.Map.Entries.{none_below_head}
use Rattle.std.specs.List.{IsDistinct, AllByRecursion}
use Rattle.std.specs.Option.{option_or}
use Rattle.std.proofs.lemmas.Map.Keys.{sorted_tail, IsDistinct-head, IsDistinct-tail}
use Rattle.std.proofs.lemmas.Map.Lookups.{CmpEqualImpliesEq, exact_bytes}
use Rattle.edge_kit.specs.declared.bytes.PubKey.{PubKey}
use Rattle.record_join.specs.Keys.{key_cmp, kept_of, with_key, with_kept}
use Rattle.std.specs.Bool.{Decides}
use Rattle.std.proofs.lemmas.Map.Keys.{IsDistinct-from_sorted}
use Rattle.std.proofs.lemmas.Map.Made.{IsDistinct-from_AllPairs}
use Rattle.record_join.specs.BooksPasts.{EachOnce}

pub key_total : IsTotalOrder key_cmp
key_total = on_total (λ (k : PubKey). k.0) nat_list_cmp_total

pub key_exact : CmpEqualImpliesEq key_cmp
key_exact a b e = ap (λ bytes. record { 0 = bytes }) (exact_bytes a.0 b.0 e)

pub at_itself : (k : PubKey) → is_at (key_cmp k) k ≡ true
at_itself k = ap is_eq (tied_itself key_total k)

-- a key that is found is the one that was looked for
pub same_key : (k q : PubKey) → is_at (key_cmp k) q ≡ true → k ≡ q
same_key k q e = at (key_cmp k q) refl e where
  at : (r : Ordering) → key_cmp k q ≡ r → is_eq r ≡ true → k ≡ q
  at Equal is found = key_exact k q is
  at Less is found = absurd (let bad : false ≡ true = found in cc)
  at Greater is found = absurd (let bad : false ≡ true = found in cc)

pub apart_back : (k q : PubKey) → is_at (key_cmp k) q ≡ false → is_at (key_cmp q) k ≡ false
apart_back k q e = sym ((eq_by_cmp_equiv key_total).symm k q) ∙ e

pub kept_here : {X : Type 0} (xs : List (PubKey × X)) (k : PubKey) (x : X) → kept_of (with_key xs k x) k ≡ Some x
kept_here [] k x = rw (at_itself k) refl
kept_here {X} (a ∷ more) k x = at (key_cmp k a.0) refl (kept_here more k x) where
  at : (r : Ordering) → key_cmp k a.0 ≡ r → kept_of (with_key more k x) k ≡ Some x → kept_of (match_ordering r ((k, x) ∷ a ∷ more) ((a.0, x) ∷ more) (a ∷ with_key more k x)) k ≡ Some x
  at Less is rest = rw (at_itself k) refl
  at Equal is rest = let found : is_at (key_cmp k) a.0 ≡ true = ap is_eq is in rw found refl
  at Greater is rest = let found : is_at (key_cmp k) a.0 ≡ false = ap is_eq is in rw found rest

pub kept_apart : {X : Type 0} (xs : List (PubKey × X)) (k q : PubKey) (x : X) → is_at (key_cmp k) q ≡ false → kept_of (with_key xs k x) q ≡ kept_of xs q
kept_apart [] k q x other = let found : is_at (key_cmp q) k ≡ false = apart_back k q other in rw found refl
kept_apart {X} (a ∷ more) k q x other = at (key_cmp k a.0) refl (kept_apart more k q x other) where
  at : (r : Ordering) → key_cmp k a.0 ≡ r → kept_of (with_key more k x) q ≡ kept_of more q → kept_of (match_ordering r ((k, x) ∷ a ∷ more) ((a.0, x) ∷ more) (a ∷ with_key more k x)) q ≡ kept_of (a ∷ more) q
  at Less is rest = let found : is_at (key_cmp q) k ≡ false = apart_back k q other in rw found refl
  at Equal is rest =
      let found : is_at (key_cmp q) a.0 ≡ false = apart_back a.0 q (subst (λ (z : PubKey). is_at (key_cmp z) q ≡ false) (key_exact k a.0 is) other) in
      rw found refl
  at Greater is rest = ap (λ o. cond (is_at (key_cmp q) a.0) (Some a.1) o) rest

-- a new key that is taken out again leaves nothing
pub taken_out : {X : Type 0} (xs : List (PubKey × X)) (k : PubKey) (x : X) → kept_of xs k ≡ None → remove_entry (is_at (key_cmp k)) (with_key xs k x) ≡ xs
taken_out [] k x none = rw (at_itself k) refl
taken_out {X} (a ∷ more) k x none = at (key_cmp k a.0) refl none (taken_out more k x) where
  at : (r : Ordering) → key_cmp k a.0 ≡ r → cond (is_eq r) (Some a.1) (kept_of more k) ≡ None → (kept_of more k ≡ None → remove_entry (is_at (key_cmp k)) (with_key more k x) ≡ more)
      → remove_entry (is_at (key_cmp k)) (match_ordering r ((k, x) ∷ a ∷ more) ((a.0, x) ∷ more) (a ∷ with_key more k x)) ≡ a ∷ more
  at Less is absent rest = rw (at_itself k) refl
  at Equal is absent rest = absurd (let bad : Some a.1 ≡ None = absent in cc)
  at Greater is absent rest = let found : is_at (key_cmp k) a.0 ≡ false = ap is_eq is in rw found (ap (λ l. a ∷ l) (rest absent))

-- among keys in order, putting something at a key that is there changes it there
pub put_kept : {X : Type 0} (xs : List (PubKey × X)) (k : PubKey) (x : X) → IsStrictlySortedBy key_cmp (keys_of xs) → IsSome (kept_of xs k) → with_key xs k x ≡ with_kept xs k x
put_kept [] k x sorted found = let bad : false ≡ true = found in cc
put_kept {X} (a ∷ more) k x sorted found = at (key_cmp k a.0) refl found (put_kept more k x (sorted_tail key_cmp a.0 (keys_of more) sorted)) where
  none : (o : Option X) → o ≡ None → IsSome o → ⊥
  none o e h = let bad : true ≡ false = sym h ∙ ap is_some e in cc

  at : (r : Ordering) → key_cmp k a.0 ≡ r → IsSome (cond (is_eq r) (Some a.1) (kept_of more k)) → (IsSome (kept_of more k) → with_key more k x ≡ with_kept more k x)
      → match_ordering r ((k, x) ∷ a ∷ more) ((a.0, x) ∷ more) (a ∷ with_key more k x) ≡ cond (is_eq r) ((a.0, x) ∷ more) (a ∷ with_kept more k x)
  at Less is h rest =
      let below = lookup-none (is_at (key_cmp k)) (a ∷ more) (none_below_head key_total k a more sorted is) in
      absurd (none (kept_of (a ∷ more) k) below found)
  at Equal is h rest = refl
  at Greater is h rest = ap (λ l. a ∷ l) (rest h)

-- what is kept of a key where another thing is kept of one that is there
pub changed : {X : Type 0} (xs : List (PubKey × X)) (k q : PubKey) (x : X) → IsSome (kept_of xs k) → kept_of (with_kept xs k x) q ≡ cond (is_at (key_cmp k) q) (Some x) (kept_of xs q)
changed xs k q x h = lookup-set_value (eq_by_cmp_equiv key_total) (is_at (key_cmp k)) (λ a b e. (eq_by_cmp_equiv key_total).congr k a b e) q x xs h

-- what is kept of a key where a list goes on
pub kept_append : {X : Type 0} (xs ys : List (PubKey × X)) (k : PubKey) → kept_of (xs ++ ys) k ≡ option_or (kept_of xs k) (kept_of ys k)
kept_append [] ys k = refl
kept_append {X} (a ∷ more) ys k = at (is_at (key_cmp k) a.0) (kept_append more ys k) where
  at : (b : Bool) → kept_of (more ++ ys) k ≡ option_or (kept_of more k) (kept_of ys k) → cond b (Some a.1) (kept_of (more ++ ys) k) ≡ option_or (cond b (Some a.1) (kept_of more k)) (kept_of ys k)
  at true rest = refl
  at false rest = rest

-- a key that differs from those behind it is not among those before
pub once_before : {X : Type 0} (front : List (PubKey × X)) (one : PubKey × X) (rest : List (PubKey × X)) → IsDistinct (eq_by_cmp key_cmp) (keys_of (front ++ one ∷ rest)) → kept_of front one.0 ≡ None
once_before [] one rest distinct = refl
once_before {X} (a ∷ more) one rest distinct =
    let here : is_at (key_cmp a.0) one.0 ≡ false = at more (IsDistinct-head (eq_by_cmp key_cmp) a.0 (keys_of (more ++ one ∷ rest)) distinct) in
    let back : is_at (key_cmp one.0) a.0 ≡ false = apart_back a.0 one.0 here in
    rw back (once_before more one rest (IsDistinct-tail (eq_by_cmp key_cmp) a.0 (keys_of (more ++ one ∷ rest)) distinct)) where
      at : (xs : List (PubKey × X)) → AllByRecursion (λ y. eq_by_cmp key_cmp a.0 y ≡ false) (keys_of (xs ++ one ∷ rest)) → eq_by_cmp key_cmp a.0 one.0 ≡ false
      at [] all = all.0
      at (x ∷ xs) all = at xs all.1

pub same_keys : (a b : PubKey) → Decides (eq_by_cmp key_cmp a b) (a ≡ b)
same_keys a b = (same_key a b, λ e. subst (λ (k : PubKey). eq_by_cmp key_cmp a k ≡ true) e (at_itself a))

pub distinct_once : {X : Type 0} (listed : List (PubKey × X)) → EachOnce listed → IsDistinct (eq_by_cmp key_cmp) (keys_of listed)
distinct_once listed once = IsDistinct-from_AllPairs same_keys (keys_of listed) once

-- keys in order are distinct
pub distinct_ordered : {X : Type 0} (xs : List (PubKey × X)) → IsStrictlySortedBy key_cmp (keys_of xs) → IsDistinct (eq_by_cmp key_cmp) (keys_of xs)
distinct_ordered xs sorted = IsDistinct-from_sorted key_cmp (keys_of xs) sorted
