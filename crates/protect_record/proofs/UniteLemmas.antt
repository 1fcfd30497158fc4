-- Lists in order with more elements, and without some.
use Rattle.std.proofs.Common.{◌≡◌, ℕ, suc, ◌+◌, ◌⊎◌, inl, inr, Bool, true, false, not, cond, List, [], ◌∷◌, ◌++◌, length, take, drop, length-append, append_assoc, ◌↔◌, refl, sym, ◌∙◌, ap, subst, arith, All, Contains, filter}
use Rattle.std.specs.List.{dedup}
use Rattle.std.specs.List.Sorted.{IsPermutation, IsSorted, IsStrictlySortedBy}
use Rattle.std.specs.Ordering.{eq_by_cmp}
use Rattle.std.specs.declared.cmp.Ordering.{Ordering}
use Rattle.std.specs.declared.cmp.Ordering.TheVariants.{Less}
use Rattle.std.specs.Cmp.{IsTotalOrder, IsEquivalence}
use Rattle.std.proofs.lemmas.Bool.{cases_Bool}
use Rattle.std.proofs.lemmas.Map.Lookups.{CmpEqualImpliesEq}
use Rattle.std.proofs.lemmas.Map.Views.{tells_apart}
use Rattle.std.proofs.Math.Seq.{take-append_seam, drop-append_seam}
use Rattle.std.proofs.lemmas.List.Elements.{All-contains, All-filter, All-contains_itself, filter_passes, All-from_recursion}
use Rattle.std.proofs.lemmas.List.Kept.{AllPairs-cons, AllPairs-filter, Contains-dedup, Contains-from_dedup, IsStrictlySortedBy-dedup}
use Rattle.std.proofs.lemmas.List.Sorted.{Contains-permutation, IsPermutation-sym}
use Rattle.protect_record.specs.Order.{IsInOrder}
use Rattle.protect_record.specs.Gathering.{HasUnited, HasDropped, HasGathered}
use Rattle.protect_record.specs.Merging.{HasMerged}
use Rattle.protect_record.proofs.MemberLemmas.{contains_first, contains_later, contains_cases, contains_none}
use Rattle.protect_record.proofs.OrderLemmas.{not_before_itself}

-- a filter has what passes
pub contains_filter : {X : Type 0} (p : X → Bool) (xs : List X) (x : X) → Contains xs x → p x ≡ true → Contains (filter p xs) x
contains_filter p [] x has ok = contains_none x has
contains_filter {X} p (y ∷ ys) x has ok = at (p y) refl (λ later. contains_filter p ys x later ok) (contains_cases y ys x has) where
  at : (b : Bool) → p y ≡ b → (Contains ys x → Contains (filter p ys) x) → (y ≡ x) ⊎ Contains ys x → Contains (cond b (y ∷ filter p ys) (filter p ys)) x
  at true is rest (inl e) = subst (λ (z : X). Contains (y ∷ filter p ys) z) e (contains_first y (filter p ys))
  at true is rest (inr later) = contains_later y (filter p ys) x (rest later)
  at false is rest (inl e) = let no : true ≡ false = sym ok ∙ ap p (sym e) ∙ is in cc
  at false is rest (inr later) = rest later

pub contains_from_filter : {X : Type 0} (p : X → Bool) (xs : List X) (x : X) → Contains (filter p xs) x → Contains xs x × (p x ≡ true)
contains_from_filter p xs x has =
    (All-contains (λ y. Contains xs y) (filter p xs) x (All-filter p (λ y. Contains xs y) xs (All-contains_itself xs)) has, All-contains (λ y. p y ≡ true) (filter p xs) x (filter_passes p xs) has)

-- a filter of what is not dead drops what is
pub dropped : {X : Type 0} (cmp : X → X → Ordering) (Dead : X → Type 0) (dead : X → Bool) → ((e : X) → (dead e ≡ true → Dead e) × (Dead e → dead e ≡ true))
    → (xs ys : List X) → IsInOrder cmp xs → ys ≡ filter (λ e. not (dead e)) xs → HasDropped cmp Dead xs ys
dropped {X} cmp Dead dead decides xs ys up is = subst (λ (zs : List X). HasDropped cmp Dead xs zs) (sym is) (record {
  elements = λ e. (forth e, λ h. back e h (cases_Bool (dead e)));
  in_order = AllPairs-filter (λ a b. cmp a b ≡ Less) (λ e. not (dead e)) xs up;
}) where
  forth : (e : X) → Contains (filter (λ x. not (dead x)) xs) e → Contains xs e × ¬ (Dead e)
  forth e has =
      let h = contains_from_filter (λ x. not (dead x)) xs e has in
      (h.0, λ d. let no : false ≡ true = sym (ap not ((decides e).1 d)) ∙ h.1 in cc)

  back : (e : X) → Contains xs e × ¬ (Dead e) → (dead e ≡ true) ⊎ (dead e ≡ false) → Contains (filter (λ x. not (dead x)) xs) e
  back e h (inl on) = absurd (h.1 ((decides e).0 on))
  back e h (inr off) = contains_filter (λ x. not (dead x)) xs e h.0 (ap not off)

-- united, and nothing is dead
pub gathered_live : {X : Type 0} (cmp : X → X → Ordering) (Dead : X → Type 0) (old more new : List X) → HasUnited cmp old more new → All (λ e. ¬ (Dead e)) new → HasGathered cmp Dead old more new
gathered_live cmp Dead old more new united live = record {
  elements = λ e. (λ has. ((united.elements e).0 has, All-contains (λ x. ¬ (Dead x)) new e live has), λ h. (united.elements e).1 h.0);
  in_order = united.in_order;
}

-- united, and then dropped
pub gathered_dropped : {X : Type 0} (cmp : X → X → Ordering) (Dead : X → Type 0) (old more both new : List X) → HasUnited cmp old more both → HasDropped cmp Dead both new → HasGathered cmp Dead old more new
gathered_dropped cmp Dead old more both new united drops = record {
  elements = λ e. (λ has. let h = (drops.elements e).0 has in ((united.elements e).0 h.0, h.1), λ h. (drops.elements e).1 ((united.elements e).1 h.0, h.1));
  in_order = drops.in_order;
}

-- put in order, each once, and then dropped
pub once_dropped : {X : Type 0} (cmp : X → X → Ordering) (Dead : X → Type 0) (more both new : List X) → HasUnited cmp [] more both → HasDropped cmp Dead both new → HasDropped cmp Dead more new
once_dropped {X} cmp Dead more both new united drops = record {
  elements = λ e. (λ has. let h = (drops.elements e).0 has in (only e ((united.elements e).0 h.0), h.1), λ h. (drops.elements e).1 ((united.elements e).1 (inr h.0), h.1));
  in_order = drops.in_order;
} where
  only : (e : X) → Contains [] e ⊎ Contains more e → Contains more e
  only e (inl has) = contains_none e has
  only e (inr has) = has

-- united with none
pub united_none : {X : Type 0} (cmp : X → X → Ordering) (xs : List X) → IsInOrder cmp xs → HasUnited cmp xs [] xs
united_none {X} cmp xs up = record {
  elements = λ e. (λ has. inl has, back e);
  in_order = up;
} where
  back : (e : X) → Contains xs e ⊎ Contains [] e → Contains xs e
  back e (inl has) = has
  back e (inr has) = contains_none e has

-- strictly sorted by recursion is in order by places
in_order_from_strict : {X : Type 0} (cmp : X → X → Ordering) (xs : List X) → IsStrictlySortedBy cmp xs → IsInOrder cmp xs
unfolding IsStrictlySortedBy
in_order_from_strict cmp [] h = λ i j d lt within. absurd (omega arith)
in_order_from_strict cmp (x ∷ xs) h = AllPairs-cons (λ a b. cmp a b ≡ Less) x xs (All-from_recursion (λ y. cmp x y ≡ Less) xs h.0) (in_order_from_strict cmp xs h.1)

-- sorted and without repeats
united_once : {X : Type 0} (cmp : X → X → Ordering) → IsTotalOrder cmp → CmpEqualImpliesEq cmp → (E : X → X → Bool) → IsEquivalence E → ((x y : X) → E x y ≡ eq_by_cmp cmp x y)
    → (old more both new : List X) → ((e : X) → Contains both e ↔ (Contains old e ⊎ Contains more e)) → IsSorted cmp both → new ≡ dedup E both → HasUnited cmp old more new
united_once {X} cmp total exact E laws ties old more both new elements sorted is = subst (λ (xs : List X). HasUnited cmp old more xs) (sym is) (record {
  elements = λ e. (λ has. (elements e).0 (Contains-from_dedup E both e has), λ h. Contains-dedup laws same both e ((elements e).1 h));
  in_order = in_order_from_strict cmp (dedup E both) (IsStrictlySortedBy-dedup total ties both sorted);
}) where
  same : (x y : X) → E x y ≡ true → x ≡ y
  same x y e = tells_apart exact x y (sym (ties x y) ∙ e)

-- one list, sorted and without repeats
pub united_sorted : {X : Type 0} (cmp : X → X → Ordering) → IsTotalOrder cmp → CmpEqualImpliesEq cmp → (E : X → X → Bool) → IsEquivalence E → ((x y : X) → E x y ≡ eq_by_cmp cmp x y)
    → (more moved new : List X) → IsPermutation more moved → IsSorted cmp moved → new ≡ dedup E moved → HasUnited cmp [] more new
united_sorted {X} cmp total exact E laws ties more moved new permuted sorted is = united_once cmp total exact E laws ties [] more moved new (λ e. (λ has. inr (Contains-permutation moved more e (IsPermutation-sym more moved permuted) has), back e)) sorted is where
  back : (e : X) → Contains [] e ⊎ Contains more e → Contains moved e
  back e (inl h) = contains_none e h
  back e (inr h) = Contains-permutation more moved e permuted h

-- a list, and more items behind it twice
pub front_is : {X : Type 0} (old more twice : List X) (count : ℕ) → count ≡ length old → twice ≡ old ++ more ++ more → take count twice ≡ old
front_is old more twice count count_is is =
    let whole : twice ≡ old ++ (more ++ more) = is ∙ append_assoc old more more in
    ap (λ xs. take count xs) whole ∙ ap (λ n. take n (old ++ (more ++ more))) count_is ∙ take-append_seam old (more ++ more)

back_is : {X : Type 0} (old more twice : List X) (end : ℕ) → end ≡ length old + length more → twice ≡ old ++ more ++ more → drop end twice ≡ more
back_is old more twice end end_is is =
    let here : end ≡ length (old ++ more) = omega (arith, length-append old more) in
    ap (λ xs. drop end xs) is ∙ ap (λ n. drop n (old ++ more ++ more)) here ∙ drop-append_seam (old ++ more) more

-- they are merged, and without repeats
pub united_merged : {X : Type 0} (cmp : X → X → Ordering) → IsTotalOrder cmp → CmpEqualImpliesEq cmp → (E : X → X → Bool) → IsEquivalence E → ((x y : X) → E x y ≡ eq_by_cmp cmp x y)
    → (old more twice both new : List X) (count : ℕ) → count ≡ length old → twice ≡ old ++ more ++ more → HasMerged cmp (take count twice) (drop (count + length more) twice) both → new ≡ dedup E both
    → HasUnited cmp old more new
united_merged {X} cmp total exact E laws ties old more twice both new count count_is is merges new_is =
    united_once cmp total exact E laws ties old more both new (λ e. (λ has. forth e ((merges.elements e).0 has), λ h. (merges.elements e).1 (back e h))) merges.sorted new_is where
      one : take count twice ≡ old
      one = front_is old more twice count count_is is

      other : drop (count + length more) twice ≡ more
      other = back_is old more twice (count + length more) (omega arith) is

      forth : (e : X) → Contains (take count twice) e ⊎ Contains (drop (count + length more) twice) e → Contains old e ⊎ Contains more e
      forth e (inl h) = inl (subst (λ (xs : List X). Contains xs e) one h)
      forth e (inr h) = inr (subst (λ (xs : List X). Contains xs e) other h)

      back : (e : X) → Contains old e ⊎ Contains more e → Contains (take count twice) e ⊎ Contains (drop (count + length more) twice) e
      back e (inl h) = inl (subst (λ (xs : List X). Contains xs e) (sym one) h)
      back e (inr h) = inr (subst (λ (xs : List X). Contains xs e) (sym other) h)

-- two lists in order with the same elements are one
pub same_in_order : {X : Type 0} (cmp : X → X → Ordering) → IsTotalOrder cmp → (xs ys : List X) → IsInOrder cmp xs → IsInOrder cmp ys
    → ((e : X) → Contains xs e → Contains ys e) → ((e : X) → Contains ys e → Contains xs e) → xs ≡ ys
same_in_order cmp total [] [] up down f g = refl
same_in_order cmp total [] (y ∷ ys) up down f g = contains_none y (g y (contains_first y ys))
same_in_order cmp total (x ∷ xs) [] up down f g = contains_none x (f x (contains_first x xs))
same_in_order {X} cmp total (x ∷ xs) (y ∷ ys) up down f g =
    let heads = first_same (contains_cases y ys x (f x (contains_first x xs))) (contains_cases x xs y (g y (contains_first y ys))) in
    let tails = same_in_order cmp total xs ys (λ i j d lt within. up (suc i) (suc j) d (omega arith) (omega arith)) (λ i j d lt within. down (suc i) (suc j) d (omega arith) (omega arith))
    (λ e has. behind x xs y ys up heads e has (contains_cases y ys e (f e (contains_later x xs e has))))
    (λ e has. behind y ys x xs down (sym heads) e has (contains_cases x xs e (g e (contains_later y ys e has)))) in
    ap (λ z. z ∷ xs) heads ∙ ap (λ zs. y ∷ zs) tails where
      -- the first comes before each behind it
      before : (z : X) (zs : List X) → IsInOrder cmp (z ∷ zs) → (e : X) → Contains zs e → cmp z e ≡ Less
      before z zs rises e has = subst (λ (w : X). cmp z w ≡ Less) has.2 (rises 0 (suc has.0) e (omega arith) (omega (arith, has.1)))

      first_same : (y ≡ x) ⊎ Contains ys x → (x ≡ y) ⊎ Contains xs y → x ≡ y
      first_same (inl e) other = sym e
      first_same (inr later) (inl e) = e
      first_same (inr later) (inr behind_x) =
          absurd (not_before_itself cmp total x (total.trans x y x (before x xs up y behind_x) (before y ys down x later)))

      behind : (a : X) (rest : List X) (b : X) (bs : List X) → IsInOrder cmp (a ∷ rest) → a ≡ b → (e : X) → Contains rest e → (b ≡ e) ⊎ Contains bs e → Contains bs e
      behind a rest b bs rises heads e has (inr later) = later
      behind a rest b bs rises heads e has (inl same) =
          let itself : cmp a a ≡ Less = subst (λ (z : X). cmp a z ≡ Less) (sym same ∙ sym heads) (before a rest rises e has) in
          absurd (not_before_itself cmp total a itself)

pub when_done : {A : Type 0} (b : Bool) (new done kept : A) → b ≡ true → new ≡ cond b done kept → new ≡ done
when_done b new done kept ok is = is ∙ ap (λ c. cond c done kept) ok

-- what was lent as a whole
pub lent_whole : {X : Type 0} (n : ℕ) (xs rest : List X) → n ≡ length xs → take n (xs ++ rest) ≡ xs
lent_whole n xs rest is = ap (λ k. take k (xs ++ rest)) is ∙ take-append_seam xs rest

-- more items were put behind a list, and once more
pub extended_twice : {X : Type 0} (old more once twice : List X) (first second : Bool) → first ≡ true → once ≡ cond first (old ++ more) old → second ≡ true → twice ≡ cond second (once ++ more) once
    → twice ≡ old ++ more ++ more
extended_twice old more once twice first second one once_is two twice_is = when_done second twice (once ++ more) once two twice_is ∙ ap (λ xs. xs ++ more) (when_done first once (old ++ more) old one once_is)
