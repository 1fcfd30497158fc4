-- Two sorted parts of a list on their way into its front.
use Rattle.std.proofs.Common.{◌≡◌, ℕ, ◌+◌, ◌-◌, ◌<◌, ◌≤◌, ◌⊎◌, inl, inr, true, false, List, length, get_or, set, take, drop, length-set, length-drop, refl, sym, ◌∙◌, ap, subst, arith, Contains}
use Rattle.std.specs.List.Sorted.{IsPermutation, IsSorted}
use Rattle.std.specs.Ordering.{is_lt, is_gt, ordering_reverse}
use Rattle.std.specs.declared.cmp.Ordering.{Ordering}
use Rattle.std.specs.declared.cmp.Ordering.TheVariants.{Less, Equal, Greater}
use Rattle.std.specs.Cmp.{IsTotalOrder}
use Rattle.std.proofs.lemmas.Bool.{cases_lt, cases_order}
use Rattle.std.proofs.lemmas.List.{get_or-set_other, get_or-drop, get_or-take, get_or_default, length-take, take-take}
use Rattle.std.proofs.lemmas.List.Sorted.{Contains-permutation, IsPermutation-sym}
use Rattle.std.proofs.lemmas.Grind.{get_or-set_at}
use Rattle.protect_record.specs.Merging.{HasMerged}

-- a place of the front or of the back
abbrev IsPart : ℕ → ℕ → ℕ → Type 0
IsPart count more j = (j < count) ⊎ ((count + more ≤ j) × (j < count + more + more))

-- the old element of a place stands between two places
abbrev IsPlaced : {X : Type 0} → List X → List X → ℕ → ℕ → ℕ → Type 0
IsPlaced {X} old list from to j = (k : ℕ) × (from ≤ k) × (k < to) × ((e : X) → get_or list k e ≡ get_or old j e)

-- so many of the front and of the back are left; those behind them stand merged at the end of the room for both
pub record IsMerging {X : Type 0} (cmp : X → X → Ordering) (old list : List X) (count more left right : ℕ) : Type 0 where
  pub left_within : left ≤ count
  pub right_within : right ≤ more
  pub len : length list ≡ count + more + more
  pub front : (k : ℕ) (d : X) → k < left → get_or list k d ≡ get_or old k d
  pub back : (k : ℕ) (d : X) → count + more ≤ k → get_or list k d ≡ get_or old k d
  pub rises : (k : ℕ) (d : X) → left + right ≤ k → k + 1 < count + more → is_lt (cmp (get_or list (k + 1) d) (get_or list k d)) ≡ false
  pub over_left : (d : X) → left + right < count + more → 0 < left → is_lt (cmp (get_or list (left + right) d) (get_or old (left - 1) d)) ≡ false
  pub over_right : (d : X) → left + right < count + more → 0 < right → is_lt (cmp (get_or list (left + right) d) (get_or old (count + more + right - 1) d)) ≡ false
  pub from_old : (k : ℕ) → left + right ≤ k → k < count + more → (j : ℕ) × IsPart count more j × ((e : X) → get_or list k e ≡ get_or old j e)
  pub has_left : (j : ℕ) → left ≤ j → j < count → IsPlaced old list (left + right) (count + more) j
  pub has_right : (j : ℕ) → right ≤ j → j < more → IsPlaced old list (left + right) (count + more) (count + more + j)

pub merging_starts : {X : Type 0} (cmp : X → X → Ordering) (old : List X) (count more : ℕ) → length old ≡ count + more + more → IsMerging cmp old old count more count more
merging_starts cmp old count more len = record {
  left_within = omega arith;
  right_within = omega arith;
  len = len;
  front = λ k d lt. refl;
  back = λ k d le. refl;
  rises = λ k d le lt. absurd (omega arith);
  over_left = λ d lt some. absurd (omega arith);
  over_right = λ d lt some. absurd (omega arith);
  from_old = λ k le lt. absurd (omega arith);
  has_left = λ j le lt. absurd (omega arith);
  has_right = λ j le lt. absurd (omega arith);
}

-- one element more is placed, the one of an old place
pub merging_places : {X : Type 0} (cmp : X → X → Ordering) (old list : List X) (count more left right less_left less_right at place : ℕ) (x : X) → IsMerging cmp old list count more left right
    → less_left ≤ left → less_right ≤ right → less_left + less_right + 1 ≡ left + right → at ≡ less_left + less_right → ((e : X) → x ≡ get_or old place e) → IsPart count more place
    → ((d : X) → left + right < count + more → is_lt (cmp (get_or list (left + right) d) x) ≡ false) → ((d : X) → 0 < less_left → is_lt (cmp x (get_or old (less_left - 1) d)) ≡ false)
    → ((d : X) → 0 < less_right → is_lt (cmp x (get_or old (count + more + less_right - 1) d)) ≡ false) → ((j : ℕ) → less_left ≤ j → j < left → j ≡ place) → ((j : ℕ) → less_right ≤ j → j < right → count + more + j ≡ place)
    → IsMerging cmp old (set list at x) count more less_left less_right
merging_places {X} cmp old list count more left right less_left less_right at place x m lle rle one here is part below over_l over_r new_l new_r = record {
  left_within = omega (arith, m.left_within);
  right_within = omega (arith, m.right_within);
  len = length-set list at x ∙ m.len;
  front = λ k d lt. other k d (inl (omega arith)) ∙ m.front k d (omega arith);
  back = λ k d le. other k d (inr (omega (arith, m.left_within, m.right_within))) ∙ m.back k d le;
  rises = λ k d le lt. up k d lt (cases_lt at k) le;
  over_left = λ d lt some. not_less _ _ _ _ (there d) refl (over_l d some);
  over_right = λ d lt some. not_less _ _ _ _ (there d) refl (over_r d some);
  from_old = λ k le lt. came k lt (cases_lt at k) le;
  has_left = λ j le lt. stays j (cases_lt j left) le lt;
  has_right = λ j le lt. keeps j (cases_lt j right) le lt;
} where
  within : at < length list
  within = omega (arith, m.len, m.left_within, m.right_within)

  bound : left + right ≤ count + more
  bound = omega (arith, m.left_within, m.right_within)

  other : (k : ℕ) (d : X) → (k < at) ⊎ (at < k) → get_or (set list at x) k d ≡ get_or list k d
  other k d (inl lt) = get_or-set_other list at k x d (λ e. omega arith)
  other k d (inr gt) = get_or-set_other list at k x d (λ e. omega arith)

  at_it : (k : ℕ) (d : X) → k ≡ at → get_or (set list at x) k d ≡ x
  at_it k d same = get_or-set_at list at k x d same within

  there : (d : X) → get_or (set list at x) (less_left + less_right) d ≡ x
  there d = at_it (less_left + less_right) d (sym here)

  not_less : (a b a' b' : X) → a' ≡ a → b' ≡ b → is_lt (cmp a b) ≡ false → is_lt (cmp a' b') ≡ false
  not_less a b a' b' p q h = ap (λ y. is_lt (cmp y b')) p ∙ ap (λ z. is_lt (cmp a z)) q ∙ h

  up : (k : ℕ) (d : X) → k + 1 < count + more → (at < k) ⊎ (k ≤ at) → less_left + less_right ≤ k → is_lt (cmp (get_or (set list at x) (k + 1) d) (get_or (set list at x) k d)) ≡ false
  up k d lt (inl above) le = not_less _ _ _ _ (other (k + 1) d (inr (omega arith))) (other k d (inr above)) (m.rises k d (omega arith) lt)
  up k d lt (inr low) le =
      let same : k ≡ at = omega arith in
      let next : k + 1 ≡ left + right = omega arith in
      not_less _ _ _ _ (other (k + 1) d (inr (omega arith)) ∙ ap (λ i. get_or list i d) next) (at_it k d same) (below d (omega arith))

  came : (k : ℕ) → k < count + more → (at < k) ⊎ (k ≤ at) → less_left + less_right ≤ k → (j : ℕ) × IsPart count more j × ((e : X) → get_or (set list at x) k e ≡ get_or old j e)
  came k lt (inl above) le = let from = m.from_old k (omega arith) lt in (from.0, from.1, λ e. other k e (inr above) ∙ from.2 e)
  came k lt (inr low) le = (place, part, λ e. at_it k e (omega arith) ∙ is e)

  moved : (j : ℕ) → IsPlaced old list (left + right) (count + more) j → IsPlaced old (set list at x) (less_left + less_right) (count + more) j
  moved j has = (has.0, omega (arith, has.1), has.2, λ e. other has.0 e (inr (omega (arith, has.1))) ∙ has.3 e)

  placed : (j : ℕ) → j ≡ place → IsPlaced old (set list at x) (less_left + less_right) (count + more) j
  placed j same = (at, omega arith, omega arith, λ e. at_it at e refl ∙ is e ∙ ap (λ i. get_or old i e) (sym same))

  stays : (j : ℕ) → (j < left) ⊎ (left ≤ j) → less_left ≤ j → j < count → IsPlaced old (set list at x) (less_left + less_right) (count + more) j
  stays j (inl low) le lt = placed j (new_l j le low)
  stays j (inr high) le lt = moved j (m.has_left j high lt)

  keeps : (j : ℕ) → (j < right) ⊎ (right ≤ j) → less_right ≤ j → j < more → IsPlaced old (set list at x) (less_left + less_right) (count + more) (count + more + j)
  keeps j (inl low) le lt = placed (count + more + j) (new_r j le low)
  keeps j (inr high) le lt = moved (count + more + j) (m.has_right j high lt)

-- a sorted front, place by place
pub front_rises : {X : Type 0} (cmp : X → X → Ordering) (old : List X) (count : ℕ) → count ≤ length old → IsSorted cmp (take count old) → (k : ℕ) (d : X) → k + 1 < count
    → is_lt (cmp (get_or old (k + 1) d) (get_or old k d)) ≡ false
front_rises cmp old count le sorted k d lt =
    let e : is_lt (cmp (get_or (take count old) (k + 1) d) (get_or (take count old) k d)) ≡ false = sorted k d (omega arith) (omega (arith, length-take count old)) in
    ap (λ y. is_lt (cmp y (get_or old k d))) (sym (get_or-take count old (k + 1) d lt)) ∙ ap (λ z. is_lt (cmp (get_or (take count old) (k + 1) d) z)) (sym (get_or-take count old k d (omega arith))) ∙ e

-- a sorted back, place by place
pub back_rises : {X : Type 0} (cmp : X → X → Ordering) (old : List X) (from : ℕ) → IsSorted cmp (drop from old) → (k : ℕ) (d : X) → from + (k + 1) < length old
    → is_lt (cmp (get_or old (from + (k + 1)) d) (get_or old (from + k) d)) ≡ false
back_rises cmp old from sorted k d lt =
    let e : is_lt (cmp (get_or (drop from old) (k + 1) d) (get_or (drop from old) k d)) ≡ false = sorted k d (omega arith) (omega (arith, length-drop from old)) in
    ap (λ y. is_lt (cmp y (get_or old (from + k) d))) (sym (get_or-drop from old (k + 1) d)) ∙ ap (λ z. is_lt (cmp (get_or (drop from old) (k + 1) d) z)) (sym (get_or-drop from old k d)) ∙ e

-- where none is left of the back, the front of the list is the two parts in one
pub merged : {X : Type 0} (cmp : X → X → Ordering) (old list : List X) (count more left right : ℕ) → right ≡ 0 → length old ≡ count + more + more → IsSorted cmp (take count old)
    → IsMerging cmp old list count more left right → HasMerged cmp (take count old) (drop (count + more) old) (take (count + more) list)
merged {X} cmp old list count more left right done len sorted m = record {
  elements = λ e. (forth e, back e);
  sorted = λ k d low lt. up k d (omega (arith, length-take (count + more) list)) (cases_order (k + 1) left);
} where
  taken : (k : ℕ) (d : X) → k < count + more → get_or (take (count + more) list) k d ≡ get_or list k d
  taken k d lt = get_or-take (count + more) list k d lt

  not_less : (a b a' b' : X) → a' ≡ a → b' ≡ b → is_lt (cmp a b) ≡ false → is_lt (cmp a' b') ≡ false
  not_less a b a' b' p q h = ap (λ y. is_lt (cmp y b')) p ∙ ap (λ z. is_lt (cmp a z)) q ∙ h

  up : (k : ℕ) (d : X) → k + 1 < count + more → (k + 1 ≡ left) ⊎ ((k + 1 < left) ⊎ (left < k + 1)) → is_lt (cmp (get_or (take (count + more) list) (k + 1) d) (get_or (take (count + more) list) k d)) ≡ false
  up k d lt (inl seam) =
      let a : get_or list (k + 1) d ≡ get_or list (left + right) d = ap (λ i. get_or list i d) (let e : k + 1 ≡ left + right = omega arith in e) in
      let b : get_or list k d ≡ get_or old (left - 1) d = m.front k d (omega arith) ∙ ap (λ i. get_or old i d) (let e : k ≡ left - 1 = omega arith in e) in
      not_less _ _ _ _ (taken (k + 1) d lt ∙ a) (taken k d (omega arith) ∙ b) (m.over_left d (omega arith) (omega arith))
  up k d lt (inr (inl low)) =
      not_less _ _ _ _ (taken (k + 1) d lt ∙ m.front (k + 1) d low) (taken k d (omega arith) ∙ m.front k d (omega arith)) (front_rises cmp old count (omega arith) sorted k d (omega (arith, m.left_within)))
  up k d lt (inr (inr high)) = not_less _ _ _ _ (taken (k + 1) d lt) (taken k d (omega arith)) (m.rises k d (omega arith) lt)

  from_part : (e : X) (j : ℕ) → IsPart count more j → get_or old j e ≡ e → Contains (take count old) e ⊎ Contains (drop (count + more) old) e
  from_part e j (inl lt) is = inl (j, omega (arith, length-take count old), get_or-take count old j e lt ∙ is)
  from_part e j (inr within) is =
      let same : count + more + (j - (count + more)) ≡ j = omega (arith, within.0) in
      inr (j - (count + more), omega (arith, length-drop (count + more) old, within.0, within.1), get_or-drop (count + more) old (j - (count + more)) e ∙ ap (λ i. get_or old i e) same ∙ is)

  forth : (e : X) → Contains (take (count + more) list) e → Contains (take count old) e ⊎ Contains (drop (count + more) old) e
  forth e has = at (cases_lt has.0 left) where
    inside : has.0 < count + more
    inside = omega (arith, has.1, length-take (count + more) list)

    at : (has.0 < left) ⊎ (left ≤ has.0) → Contains (take count old) e ⊎ Contains (drop (count + more) old) e
    at (inl low) = from_part e has.0 (inl (omega (arith, m.left_within))) (sym (m.front has.0 e low) ∙ sym (taken has.0 e inside) ∙ has.2)
    at (inr high) = let from = m.from_old has.0 (omega arith) inside in from_part e from.0 from.1 (sym (from.2 e) ∙ sym (taken has.0 e inside) ∙ has.2)

  stands : (e : X) (k : ℕ) → k < count + more → get_or list k e ≡ e → Contains (take (count + more) list) e
  stands e k lt is = (k, omega (arith, length-take (count + more) list, m.len), taken k e lt ∙ is)

  back : (e : X) → Contains (take count old) e ⊎ Contains (drop (count + more) old) e → Contains (take (count + more) list) e
  back e (inl has) = at (cases_lt has.0 left) where
    inside : has.0 < count
    inside = omega (arith, has.1, length-take count old)

    is : get_or old has.0 e ≡ e
    is = sym (get_or-take count old has.0 e inside) ∙ has.2

    at : (has.0 < left) ⊎ (left ≤ has.0) → Contains (take (count + more) list) e
    at (inl low) = stands e has.0 (omega arith) (m.front has.0 e low ∙ is)
    at (inr high) = let placed = m.has_left has.0 high inside in stands e placed.0 placed.2 (placed.3 e ∙ is)
  back e (inr has) =
      let placed = m.has_right has.0 (omega arith) (omega (arith, has.1, length-drop (count + more) old)) in
      stands e placed.0 placed.2 (placed.3 e ∙ sym (get_or-drop (count + more) old has.0 e) ∙ has.2)

gt_not_lt : (o : Ordering) → is_gt o ≡ true → is_lt o ≡ false
gt_not_lt Less h = cc
gt_not_lt Equal h = refl
gt_not_lt Greater h = refl

turned : (o : Ordering) → is_gt o ≡ false → is_lt (ordering_reverse o) ≡ false
turned Less h = refl
turned Equal h = refl
turned Greater h = cc

-- the last of the front goes behind the last of the back
pub merging_left : {X : Type 0} (cmp : X → X → Ordering) (old list : List X) (count more left right at : ℕ) (x y next : X) → IsMerging cmp old list count more left right → 0 < left → 0 < right
    → at ≡ left + right - 1 → length old ≡ count + more + more → IsSorted cmp (take count old) → x ≡ get_or list (left - 1) x → y ≡ get_or list (left - 1) y → next ≡ get_or list (count + more + right - 1) next
    → is_gt (cmp y next) ≡ true → IsMerging cmp old (set list at x) count more (left - 1) right
merging_left {X} cmp old list count more left right at x y next m some_left some_right here len sorted x_is y_is next_is gt =
    merging_places cmp old list count more left right (left - 1) right at (left - 1) x m (omega arith) (omega arith) (omega arith) (omega arith) is (inl (omega (arith, m.left_within)))
    (λ d lt. ap (λ z. is_lt (cmp (get_or list (left + right) d) z)) (is d) ∙ m.over_left d lt some_left) over_l over_r (λ j le lt. omega arith) (λ j le lt. absurd (omega arith)) where
      was : (z : X) → z ≡ get_or list (left - 1) z → (e : X) → z ≡ get_or old (left - 1) e
      was z z_is e = z_is ∙ get_or_default list (left - 1) z e (omega (arith, m.len, m.left_within)) ∙ m.front (left - 1) e (omega arith)

      is : (e : X) → x ≡ get_or old (left - 1) e
      is e = was x x_is e

      over_l : (d : X) → 0 < left - 1 → is_lt (cmp x (get_or old (left - 1 - 1) d)) ≡ false
      over_l d some =
          let i : left - 1 - 1 + 1 ≡ left - 1 = omega arith in
          let e : get_or old (left - 1 - 1 + 1) d ≡ x = ap (λ k. get_or old k d) i ∙ sym (is d) in
          ap (λ z. is_lt (cmp z (get_or old (left - 1 - 1) d))) (sym e) ∙ front_rises cmp old count (omega arith) sorted (left - 1 - 1) d (omega (arith, m.left_within))

      over_r : (d : X) → 0 < right → is_lt (cmp x (get_or old (count + more + right - 1) d)) ≡ false
      over_r d some =
          let a : x ≡ y = is y ∙ sym (was y y_is y) in
          let b : get_or old (count + more + right - 1) d ≡ next =
          sym (m.back (count + more + right - 1) d (omega arith)) ∙ get_or_default list (count + more + right - 1) d next (omega (arith, m.len, m.right_within)) ∙ sym next_is in
          ap (λ z. is_lt (cmp z (get_or old (count + more + right - 1) d))) a ∙ ap (λ z. is_lt (cmp y z)) b ∙ gt_not_lt (cmp y next) gt

-- the last of the back goes behind the last of the front
pub merging_right : {X : Type 0} (cmp : X → X → Ordering) → IsTotalOrder cmp → (old list : List X) (count more left right at : ℕ) (next : X) → IsMerging cmp old list count more left right → 0 < right
    → at ≡ left + right - 1 → length old ≡ count + more + more → IsSorted cmp (drop (count + more) old) → next ≡ get_or list (count + more + right - 1) next
    → (0 < left → is_gt (cmp (get_or list (left - 1) next) next) ≡ false) → IsMerging cmp old (set list at next) count more left (right - 1)
merging_right {X} cmp total old list count more left right at next m some_right here len sorted next_is not_gt =
    merging_places cmp old list count more left right left (right - 1) at (count + more + right - 1) next m (omega arith) (omega arith) (omega arith) (omega arith) is (inr (omega arith, omega (arith, m.right_within)))
    (λ d lt. ap (λ z. is_lt (cmp (get_or list (left + right) d) z)) (is d) ∙ m.over_right d lt some_right) over_l over_r (λ j le lt. absurd (omega arith)) (λ j le lt. omega arith) where
      is : (e : X) → next ≡ get_or old (count + more + right - 1) e
      is e = next_is ∙ get_or_default list (count + more + right - 1) next e (omega (arith, m.len, m.right_within)) ∙ m.back (count + more + right - 1) e (omega arith)

      over_l : (d : X) → 0 < left → is_lt (cmp next (get_or old (left - 1) d)) ≡ false
      over_l d some =
          let a : get_or old (left - 1) d ≡ get_or list (left - 1) next = sym (m.front (left - 1) d (omega arith)) ∙ get_or_default list (left - 1) d next (omega (arith, m.len, m.left_within)) in
          ap (λ z. is_lt (cmp next z)) a ∙ ap is_lt (total.antisymm next (get_or list (left - 1) next)) ∙ turned (cmp (get_or list (left - 1) next) next) (not_gt some)

      over_r : (d : X) → 0 < right - 1 → is_lt (cmp next (get_or old (count + more + (right - 1) - 1) d)) ≡ false
      over_r d some =
          let i : count + more + (right - 1 - 1 + 1) ≡ count + more + right - 1 = omega arith in
          let j : count + more + (right - 1) - 1 ≡ count + more + (right - 1 - 1) = omega arith in
          let e : get_or old (count + more + (right - 1 - 1 + 1)) d ≡ next = ap (λ k. get_or old k d) i ∙ sym (is d) in
          let f : get_or old (count + more + (right - 1) - 1) d ≡ get_or old (count + more + (right - 1 - 1)) d = ap (λ k. get_or old k d) j in
          ap (λ z. is_lt (cmp next z)) f ∙ ap (λ z. is_lt (cmp z (get_or old (count + more + (right - 1 - 1)) d))) (sym e)
          ∙ back_rises cmp old (count + more) sorted (right - 1 - 1) d (omega (arith, m.right_within))

-- what is left in front where the items from a place on are sorted
pub front_stays : {X : Type 0} (old moved : List X) (count end : ℕ) → count ≤ end → take end moved ≡ take end old → take count moved ≡ take count old
front_stays old moved count end le front = sym (take-take count end moved le) ∙ ap (λ xs. take count xs) front ∙ take-take count end old le

-- the parts may be sorted first
pub merged_sorted : {X : Type 0} (cmp : X → X → Ordering) (old moved both : List X) (count end : ℕ) → count ≤ end → take end moved ≡ take end old → IsPermutation (drop end old) (drop end moved)
    → HasMerged cmp (take count moved) (drop end moved) both → HasMerged cmp (take count old) (drop end old) both
merged_sorted {X} cmp old moved both count end le front permuted merges = record {
  elements = λ e. (λ has. forth e ((merges.elements e).0 has), λ h. (merges.elements e).1 (back e h));
  sorted = merges.sorted;
} where
  same : take count moved ≡ take count old
  same = front_stays old moved count end le front

  forth : (e : X) → Contains (take count moved) e ⊎ Contains (drop end moved) e → Contains (take count old) e ⊎ Contains (drop end old) e
  forth e (inl h) = inl (subst (λ (xs : List X). Contains xs e) same h)
  forth e (inr h) = inr (Contains-permutation (drop end moved) (drop end old) e (IsPermutation-sym (drop end old) (drop end moved) permuted) h)

  back : (e : X) → Contains (take count old) e ⊎ Contains (drop end old) e → Contains (take count moved) e ⊎ Contains (drop end moved) e
  back e (inl h) = inl (subst (λ (xs : List X). Contains xs e) (sym same) h)
  back e (inr h) = inr (Contains-permutation (drop end old) (drop end moved) e permuted h)
