-- Lists in an order: the first that passes, and one element more at its place.
use Rattle.std.proofs.Common.{◌≡◌, ◌≢◌, ℕ, ◌+◌, ◌-◌, ◌<◌, ◌≤◌, ◌⊎◌, inl, inr, Bool, true, cond, List, length, get_or, sym, ◌∙◌, ap, subst, arith, Contains}
use Rattle.std.specs.Prelude.{insert}
use Rattle.std.specs.List.{remove}
use Rattle.std.specs.List.Sorted.{IsPartitionPoint, IsNonDecreasingBy, IsSorted}
use Rattle.std.specs.Ordering.{ordering_reverse, ordering_index, is_lt}
use Rattle.std.specs.declared.cmp.Ordering.{Ordering}
use Rattle.std.specs.declared.cmp.Ordering.TheVariants.{Less, Equal, Greater}
use Rattle.std.specs.Cmp.{IsTotalOrder}
use Rattle.std.proofs.lemmas.Bool.{cases_order, cases_lt}
use Rattle.std.proofs.lemmas.Cmp.{tied_itself}
use Rattle.std.proofs.lemmas.List.{ext_get_or}
use Rattle.std.proofs.lemmas.List.Edits.{length-insert, length-remove, get_or-insert_below, get_or-insert_at, get_or-insert_above, get_or-remove_below, get_or-remove_above}
use Rattle.std.proofs.lemmas.List.Sorted.{searchable_from_sorted}
use Rattle.protect_record.specs.Order.{IsInOrder, IsFirst}
use Rattle.protect_record.specs.Changes.{HasJoined}

-- nothing comes before itself
pub not_before_itself : {X : Type 0} (cmp : X → X → Ordering) → IsTotalOrder cmp → (x : X) → cmp x x ≢ Less
not_before_itself cmp total x less = let e : cmp x x ≡ Equal = tied_itself total x in cc

-- what comes before another does not come behind it
pub greater_from_less : {X : Type 0} (cmp : X → X → Ordering) → IsTotalOrder cmp → (x y : X) → cmp x y ≡ Less → cmp y x ≡ Greater
greater_from_less cmp total x y less = total.antisymm y x ∙ ap ordering_reverse less

pub less_from_greater : {X : Type 0} (cmp : X → X → Ordering) → IsTotalOrder cmp → (x y : X) → cmp x y ≡ Greater → cmp y x ≡ Less
less_from_greater cmp total x y greater = total.antisymm y x ∙ ap ordering_reverse greater

-- in order, the first that passes is the first in that order
pub first_found : {X : Type 0} (cmp : X → X → Ordering) → IsTotalOrder cmp → (P : X → Type 0) (xs : List X) → IsInOrder cmp xs
    → (i : ℕ) (x : X) → i < length xs → ((d : X) → get_or xs i d ≡ x) → ((k : ℕ) (d : X) → k < i → ¬ (P (get_or xs k d))) → P x → IsFirst cmp P xs x
first_found {X} cmp total P xs up i x within at none here = record {
  is_kept = (i, within, at x);
  passes = here;
  no_earlier = λ other has p less. no_other other has.0 has.1 has.2 p less (cases_order has.0 i);
} where
  no_other : (other : X) (k : ℕ) → k < length xs → get_or xs k other ≡ other → P other → cmp other x ≡ Less → (k ≡ i) ⊎ ((k < i) ⊎ (i < k)) → ⊥
  no_other other k lt is p less (inl e) =
      let same : x ≡ other = sym (at other) ∙ ap (λ j. get_or xs j other) (sym e) ∙ is in
      not_before_itself cmp total x (subst (λ (y : X). cmp y x ≡ Less) (sym same) less)
  no_other other k lt is p less (inr (inl before)) = none k other before (subst P (sym is) p)
  no_other other k lt is p less (inr (inr behind)) =
      let up_to : cmp (get_or xs i other) (get_or xs k other) ≡ Less = up i k other behind lt in
      let after : cmp x other ≡ Less = subst (λ (y : X). cmp y other ≡ Less) (at other) (subst (λ (z : X). cmp (get_or xs i other) z ≡ Less) is up_to) in
      let back : cmp other x ≡ Greater = greater_from_less cmp total x other after in
      cc

-- in order is sorted
pub sorted_in_order : {X : Type 0} (cmp : X → X → Ordering) → IsTotalOrder cmp → (xs : List X) → IsInOrder cmp xs → IsSorted cmp xs
sorted_in_order cmp total xs up k d low within = ap is_lt (greater_from_less cmp total (get_or xs k d) (get_or xs (k + 1) d) (up k (k + 1) d (omega arith) within))

-- in order, a search by the order has what it asks for
pub searchable : {X : Type 0} (cmp : X → X → Ordering) → IsTotalOrder cmp → (xs : List X) (x : X) → IsInOrder cmp xs
    → IsNonDecreasingBy (λ y. ordering_index (cmp y x)) xs
searchable {X} cmp total xs x up = searchable_from_sorted total (λ y. y) xs x (sorted_in_order cmp total xs up)

-- an element that goes between those before it and those behind it
pub joined : {X : Type 0} (cmp : X → X → Ordering) → IsTotalOrder cmp → (xs ys : List X) (i : ℕ) (x : X) → IsInOrder cmp xs → i ≤ length xs
    → IsPartitionPoint (λ y. cmp y x ≡ Less) (λ y. cmp y x ≡ Greater) xs i → ys ≡ insert xs i x → HasJoined cmp xs ys x
joined {X} cmp total xs ys i x up within parts is = subst (λ (zs : List X). HasJoined cmp xs zs x) (sym is) (record {
  elements = λ e. (λ has. forth e has.0 has.1 has.2 (cases_order has.0 i), back e);
  in_order = λ j k d lt below. rises j k d lt (omega (arith, length-insert xs i x within)) (cases_order j i) (cases_order k i);
}) where
  len : length (insert xs i x) ≡ length xs + 1
  len = length-insert xs i x within

  forth : (e : X) (k : ℕ) → k < length (insert xs i x) → get_or (insert xs i x) k e ≡ e → (k ≡ i) ⊎ ((k < i) ⊎ (i < k)) → Contains xs e ⊎ (e ≡ x)
  forth e k lt at (inl here) = inr (sym at ∙ ap (λ j. get_or (insert xs i x) j e) here ∙ get_or-insert_at xs i x e within)
  forth e k lt at (inr (inl before)) = inl (k, omega arith, sym (get_or-insert_below xs i x e k before within) ∙ at)
  forth e k lt at (inr (inr behind)) =
      let j : k ≡ (k - 1) + 1 = omega arith in
      inl (k - 1, omega (arith, len), sym (get_or-insert_above xs i x e (k - 1) (omega arith) within) ∙ ap (λ n. get_or (insert xs i x) n e) (sym j) ∙ at)

  back : (e : X) → Contains xs e ⊎ (e ≡ x) → Contains (insert xs i x) e
  back e (inr same) = (i, omega (arith, len), get_or-insert_at xs i x e within ∙ sym same)
  back e (inl has) = place (cases_lt has.0 i) where
    place : (has.0 < i) ⊎ (i ≤ has.0) → Contains (insert xs i x) e
    place (inl before) = (has.0, omega (arith, len, has.1), get_or-insert_below xs i x e has.0 before within ∙ has.2)
    place (inr behind) = (has.0 + 1, omega (arith, len, has.1), get_or-insert_above xs i x e has.0 behind within ∙ has.2)

  at_less : (a b a' b' : X) → a' ≡ a → b' ≡ b → cmp a b ≡ Less → cmp a' b' ≡ Less
  at_less a b a' b' p q less = cc

  rises : (j k : ℕ) (d : X) → j < k → k < length xs + 1 → (j ≡ i) ⊎ ((j < i) ⊎ (i < j)) → (k ≡ i) ⊎ ((k < i) ⊎ (i < k)) → cmp (get_or (insert xs i x) j d) (get_or (insert xs i x) k d) ≡ Less
  rises j k d lt below (inr (inl jb)) (inr (inl kb)) =
      at_less _ _ _ _ (get_or-insert_below xs i x d j jb within) (get_or-insert_below xs i x d k kb within) (up j k d lt (omega arith))
  rises j k d lt below (inr (inl jb)) (inl ke) =
      at_less _ _ _ _ (get_or-insert_below xs i x d j jb within) (ap (λ n. get_or (insert xs i x) n d) ke ∙ get_or-insert_at xs i x d within) (parts.0 j d (omega arith) jb)
  rises j k d lt below (inr (inl jb)) (inr (inr ka)) =
      let p : k ≡ (k - 1) + 1 = omega arith in
      at_less _ _ _ _ (get_or-insert_below xs i x d j jb within) (ap (λ n. get_or (insert xs i x) n d) p ∙ get_or-insert_above xs i x d (k - 1) (omega arith) within) (up j (k - 1) d (omega arith) (omega arith))
  rises j k d lt below (inl je) (inr (inr ka)) =
      let p : k ≡ (k - 1) + 1 = omega arith in
      at_less _ _ _ _ (ap (λ n. get_or (insert xs i x) n d) je ∙ get_or-insert_at xs i x d within) (ap (λ n. get_or (insert xs i x) n d) p ∙ get_or-insert_above xs i x d (k - 1) (omega arith) within)
      (less_from_greater cmp total _ _ (parts.1 (k - 1) d (omega arith) (omega arith)))
  rises j k d lt below (inr (inr ja)) (inr (inr ka)) =
      let p : k ≡ (k - 1) + 1 = omega arith in
      let q : j ≡ (j - 1) + 1 = omega arith in
      at_less _ _ _ _ (ap (λ n. get_or (insert xs i x) n d) q ∙ get_or-insert_above xs i x d (j - 1) (omega arith) within) (ap (λ n. get_or (insert xs i x) n d) p ∙ get_or-insert_above xs i x d (k - 1) (omega arith) within)
      (up (j - 1) (k - 1) d (omega arith) (omega arith))
  rises j k d lt below (inl je) (inl ke) = absurd (omega arith)
  rises j k d lt below (inl je) (inr (inl kb)) = absurd (omega arith)
  rises j k d lt below (inr (inr ja)) (inl ke) = absurd (omega arith)
  rises j k d lt below (inr (inr ja)) (inr (inl kb)) = absurd (omega arith)

-- the same, where the search went over a lent part that is the whole list
pub inserted : {X : Type 0} (cmp : X → X → Ordering) → IsTotalOrder cmp → (xs zs ys : List X) (i : ℕ) (x : X) → IsInOrder cmp xs → zs ≡ xs → i ≤ length zs
    → (IsNonDecreasingBy (λ y. ordering_index (cmp y x)) zs → IsPartitionPoint (λ y. cmp y x ≡ Less) (λ y. cmp y x ≡ Greater) zs i) → (b : Bool) → b ≡ true → ys ≡ cond b (insert xs i x) xs → HasJoined cmp xs ys x
inserted {X} cmp total xs zs ys i x up same within search_says b ok is =
    let P : List X → Type 0 = λ ws. i ≤ length ws → (IsNonDecreasingBy (λ y. ordering_index (cmp y x)) ws → IsPartitionPoint (λ y. cmp y x ≡ Less) (λ y. cmp y x ≡ Greater) ws i) → HasJoined cmp xs ys x in
    let at : P xs = λ le says. joined cmp total xs ys i x up le (says (searchable cmp total xs x up)) (is ∙ ap (λ c. cond c (insert xs i x) xs) ok) in
    subst P (sym same) at within search_says

-- an element that is there already
pub joined_already : {X : Type 0} (cmp : X → X → Ordering) (xs ys : List X) (x : X) → IsInOrder cmp xs → Contains xs x → ys ≡ xs → HasJoined cmp xs ys x
joined_already {X} cmp xs ys x up has is = subst (λ (zs : List X). HasJoined cmp xs zs x) (sym is) (record {
  elements = λ e. (λ h. inl h, back e);
  in_order = up;
}) where
  back : (e : X) → Contains xs e ⊎ (e ≡ x) → Contains xs e
  back e (inl h) = h
  back e (inr same) = subst (λ (y : X). Contains xs y) (sym same) has

-- without what was put in the list is what it was
removed_again : {X : Type 0} (xs : List X) (i : ℕ) (x : X) → i ≤ length xs → remove (insert xs i x) i ≡ xs
removed_again {X} xs i x le = ext_get_or x (remove (insert xs i x) i) xs (omega (arith, grown, shorter)) (λ k lt. at k (cases_lt k i)) where
  grown : length (insert xs i x) ≡ length xs + 1
  grown = length-insert xs i x le

  within : i < length (insert xs i x)
  within = omega (arith, grown)

  shorter : length (remove (insert xs i x) i) + 1 ≡ length (insert xs i x)
  shorter = length-remove (insert xs i x) i within

  at : (k : ℕ) → (k < i) ⊎ (i ≤ k) → get_or (remove (insert xs i x) i) k x ≡ get_or xs k x
  at k (inl below) = get_or-remove_below (insert xs i x) i x k below within ∙ get_or-insert_below xs i x x k below le
  at k (inr above) = get_or-remove_above (insert xs i x) i x k above within ∙ get_or-insert_above xs i x x k above le

-- the place of what was put in, where the search went over a lent part that is the whole list
pub put_at : {X : Type 0} (xs zs ys : List X) (i : ℕ) (x : X) → zs ≡ xs → i ≤ length zs → (b : Bool) → b ≡ true → ys ≡ cond b (insert xs i x) xs → (i < length ys) × (remove ys i ≡ xs)
put_at {X} xs zs ys i x same within b ok is =
    let le : i ≤ length xs = subst (λ (ws : List X). i ≤ length ws) same within in
    let put : ys ≡ insert xs i x = is ∙ ap (λ c. cond c (insert xs i x) xs) ok in
    (omega (arith, ap length put, length-insert xs i x le), ap (λ ws. remove ws i) put ∙ removed_again xs i x le)
