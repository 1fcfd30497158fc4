-- Where the entries of a slot or of a target are found.
use Rattle.std.proofs.Common.{◌≡◌, ℕ, ◌<◌, ◌≤◌, ◌⊎◌, ◌↔◌, inl, inr, Bool, List, Option, Some, None, Result, Ok, Err, IfNone, IsTrue, is_ok, length, get_or, sym, subst, arith, Contains}
use Rattle.std.specs.List.Sorted.{IsNonDecreasingBy, IsBinarySearchResult, IsSearchInRange}
use Rattle.std.specs.declared.cmp.Ordering.{Ordering}
use Rattle.std.specs.declared.cmp.Ordering.TheVariants.{Less, Equal, Greater}
use Rattle.std.specs.Cmp.{IsTotalOrder}
use Rattle.std.proofs.lemmas.Bool.{cases_lt}
use Rattle.std.proofs.lemmas.Cmp.{tied_itself}
use Rattle.std.proofs.lemmas.Map.Lookups.{CmpEqualImpliesEq}
use Rattle.protect_record.specs.Order.{IsInOrder}
use Rattle.protect_record.proofs.LiveLemmas.{not_true}
use Rattle.protect_record.proofs.OrderLemmas.{not_before_itself, searchable}

-- along a list in order a number that the order goes by does not fall
pub keys_rise : {X : Type 0} (cmp : X → X → Ordering) (key : X → ℕ) → ((a b : X) → cmp a b ≡ Less → key a ≤ key b) → (xs : List X) → IsInOrder cmp xs → IsNonDecreasingBy key xs
keys_rise {X} cmp key rises xs up i j d le within = at (cases_lt i j) where
  at : (i < j) ⊎ (j ≤ i) → key (get_or xs i d) ≤ key (get_or xs j d)
  at (inl lt) = rises (get_or xs i d) (get_or xs j d) (up i j d lt within)
  at (inr ge) = let same : i ≡ j = omega arith in subst (λ (k : ℕ). key (get_or xs i d) ≤ key (get_or xs k d)) same (omega arith)

-- what a search answers tells whether the element is in the list
pub search_tells : {X : Type 0} (cmp : X → X → Ordering) → IsTotalOrder cmp → CmpEqualImpliesEq cmp → (xs zs : List X) (x : X) → IsInOrder cmp xs → zs ≡ xs → (r : Result ℕ ℕ)
    → IsSearchInRange r (length zs) → IsBinarySearchResult (λ y. cmp y x) zs r → (b : Bool) → b ≡ is_ok r → IsTrue b ↔ Contains xs x
search_tells {X} cmp total exact xs zs x up same r within says b is =
    subst (λ (ws : List X). IsSearchInRange r (length ws) → IsBinarySearchResult (λ y. cmp y x) ws r → IsTrue b ↔ Contains xs x) (sym same) (at r is) within says where
      at : (s : Result ℕ ℕ) → b ≡ is_ok s → IsSearchInRange s (length xs) → IsBinarySearchResult (λ y. cmp y x) xs s → IsTrue b ↔ Contains xs x
      at (Ok i) is_found lt holds = (λ t. (i, lt, exact (get_or xs i x) x (holds x)), λ has. is_found)
      at (Err i) is_none le parts =
          (λ t. absurd (not_true b is_none t), λ has. absurd (elsewhere has (cases_lt has.0 i))) where
            elsewhere : (has : Contains xs x) → (has.0 < i) ⊎ (i ≤ has.0) → ⊥
            elsewhere has (inl lt) =
                let less : cmp x x ≡ Less = subst (λ (y : X). cmp y x ≡ Less) has.2 ((parts (searchable cmp total xs x up)).0 has.0 x (omega arith) lt) in
                not_before_itself cmp total x less
            elsewhere has (inr ge) =
                let more : cmp x x ≡ Greater = subst (λ (y : X). cmp y x ≡ Greater) has.2 ((parts (searchable cmp total xs x up)).1 has.0 x ge has.1) in
                let e : cmp x x ≡ Equal = tied_itself total x in
                cc

pub none_then : {X : Type 0} (r : Option X) (P Q : Type 0) → (P → Q) → IfNone r P → IfNone r Q
none_then None P Q f h = f h
none_then (Some x) P Q f h = tt
