-- Lists in the order in which they are written.
use Rattle.std.proofs.Common.{◌≡◌, ℕ, ◌+◌, ◌<◌, cond, List, [], ◌∷◌, length, get_or, drop, fold, Some, None, Ordering, Less, Equal, Greater, is_eq, refl, ap}
use Rattle.std.proofs.lemmas.List.{at_drop_more}
use Rattle.std.specs.Cmp.{IsTotalOrder}
use Rattle.std.specs.List.{AllByRecursion}
use Rattle.std.specs.List.Sorted.{IsStrictlySortedBy}
use Rattle.std.specs.Map.{keys_of, lookup, set_value}
use Rattle.std.specs.BTreeMap.{insert_entry, is_at}

-- one element of a fold
pub fold_more : {A B : Type 0} (step : B → A → B) (found : B) (xs : List A) (i : ℕ) (d : A) → i < length xs → fold step found (drop i xs) ≡ fold step (step found (get_or xs i d)) (drop (i + 1) xs)
fold_more step found xs i d below = at_drop_more (fold step found) xs i d below

module _ {K X : Type 0} (cmp : K → K → Ordering) (total : IsTotalOrder cmp) where
  -- a key below all others is none of them
  below_all : (k first : K) (es : List (K × X)) → cmp k first ≡ Less → AllByRecursion (λ y. cmp first y ≡ Less) (keys_of es) → lookup (is_at (cmp k)) es ≡ None
  below_all k first [] less all = refl
  below_all k first (e ∷ es) less all = let lower : cmp k e.0 ≡ Less = total.trans k first e.0 less all.0 in rw lower (below_all k first es less all.1)

  set_value_by : (o : Ordering) (k : K) (e : K × X) (es : List (K × X)) (v w : X) → cmp k e.0 ≡ o → AllByRecursion (λ y. cmp e.0 y ≡ Less) (keys_of es)
      → (lookup (is_at (cmp k)) es ≡ Some v → set_value (is_at (cmp k)) es w ≡ insert_entry cmp es k w)
      → cond (is_eq o) (Some e.1) (lookup (is_at (cmp k)) es) ≡ Some v → set_value (is_at (cmp k)) (e ∷ es) w ≡ insert_entry cmp (e ∷ es) k w
  set_value_by Less k e es v w is above later found = absurd (cc (below_all k e.0 es is above, found))
  set_value_by Equal k e es v w is above later found = rw is refl
  set_value_by Greater k e es v w is above later found = rw is (ap (λ rest. e ∷ rest) (later found))

  -- where the key is found, to write its value is to insert it
  pub set_value-insert_entry : (k : K) (es : List (K × X)) (v w : X) → IsStrictlySortedBy cmp (keys_of es) → lookup (is_at (cmp k)) es ≡ Some v → set_value (is_at (cmp k)) es w ≡ insert_entry cmp es k w
  unfolding IsStrictlySortedBy
  set_value-insert_entry k [] v w sorted found = absurd cc
  set_value-insert_entry k (e ∷ es) v w sorted found = set_value_by (cmp k e.0) k e es v w refl sorted.0 (set_value-insert_entry k es v w sorted.1) found
