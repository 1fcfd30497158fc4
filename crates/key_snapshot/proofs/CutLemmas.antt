-- Lists that are cut: one part more is the next elements, and the parts are the list.
use Rattle.std.proofs.Common.{◌≡◌, ◌⊎◌, inl, inr, ℕ, zero, suc, ◌-◌, ◌<◌, ◌≤◌, List, [], ◌∷◌, ◌++◌, length, take, drop, refl, sym, ◌∙◌, ap, append-nil, arith}
use Rattle.std.specs.List.{flat_map}
use Rattle.std.proofs.lemmas.List.{drop_all, drop_at, length-drop, length-take, take-append-drop, take_all, take_at}
use Rattle.key_snapshot.specs.Cuts.{AreFilled, cut, cut_by}

-- fuel above the length changes nothing
cut_fuel : {X : Type 0} (fuel more limit : ℕ) (xs : List X) → 0 < limit → length xs ≤ fuel → length xs ≤ more → cut_by fuel limit xs ≡ cut_by more limit xs
cut_fuel zero zero limit xs some within also = refl
cut_fuel zero (suc more) limit [] some within also = refl
cut_fuel zero (suc more) limit (x ∷ xs) some within also = absurd (omega arith)
cut_fuel (suc fuel) zero limit [] some within also = refl
cut_fuel (suc fuel) zero limit (x ∷ xs) some within also = absurd (omega arith)
cut_fuel (suc fuel) (suc more) limit [] some within also = refl
cut_fuel (suc fuel) (suc more) limit (x ∷ xs) some within also =
    let behind : length (drop limit (x ∷ xs)) ≡ suc (length xs) - limit = length-drop limit (x ∷ xs) in
    ap (λ parts. take limit (x ∷ xs) ∷ parts) (cut_fuel fuel more limit (drop limit (x ∷ xs)) some (omega arith) (omega arith))

pub cut-nil : {X : Type 0} (limit : ℕ) → cut {X = X} limit [] ≡ []
unfolding cut
cut-nil limit = refl

pub cut-cons : {X : Type 0} (limit : ℕ) (x : X) (xs : List X) → 0 < limit → cut limit (x ∷ xs) ≡ take limit (x ∷ xs) ∷ cut limit (drop limit (x ∷ xs))
unfolding cut
cut-cons limit x xs some =
    let behind : length (drop limit (x ∷ xs)) ≡ suc (length xs) - limit = length-drop limit (x ∷ xs) in
    ap (λ parts. take limit (x ∷ xs) ∷ parts) (cut_fuel (length xs) (length (drop limit (x ∷ xs))) limit (drop limit (x ∷ xs)) some (omega arith) (omega arith))

-- the first part is as many elements as a part has, or all
pub cut-append : {X : Type 0} (limit : ℕ) (x : X) (xs left : List X) → 0 < limit → length (x ∷ xs) ≤ limit → (length (x ∷ xs) ≡ limit) ⊎ (left ≡ []) → cut limit (x ∷ xs ++ left) ≡ (x ∷ xs) ∷ cut limit left
cut-append limit x xs left some within (inl full) =
    cut-cons limit x (xs ++ left) some
    ∙ ap (λ part. part ∷ cut limit (drop limit (x ∷ xs ++ left))) (take_at (x ∷ xs) left limit full)
    ∙ ap (λ rest. (x ∷ xs) ∷ cut limit rest) (drop_at (x ∷ xs) left limit full)
cut-append limit x xs left some within (inr none) =
    ap (λ l. cut limit l) (ap (λ l. x ∷ xs ++ l) none ∙ append-nil (x ∷ xs))
    ∙ cut-cons limit x xs some
    ∙ ap (λ part. part ∷ cut limit (drop limit (x ∷ xs))) (take_all limit (x ∷ xs) within)
    ∙ ap (λ rest. (x ∷ xs) ∷ cut limit rest) (drop_all limit (x ∷ xs) within ∙ sym none)

-- ---- the parts are the list, and are filled

joined_by : {X : Type 0} (fuel limit : ℕ) (xs : List X) → 0 < limit → length xs ≤ fuel → flat_map (λ part. part) (cut_by fuel limit xs) ≡ xs
joined_by zero limit [] some within = refl
joined_by zero limit (x ∷ xs) some within = absurd (omega arith)
joined_by (suc fuel) limit [] some within = refl
joined_by (suc fuel) limit (x ∷ xs) some within =
    let behind : length (drop limit (x ∷ xs)) ≡ suc (length xs) - limit = length-drop limit (x ∷ xs) in
    ap (λ l. take limit (x ∷ xs) ++ l) (joined_by fuel limit (drop limit (x ∷ xs)) some (omega arith)) ∙ take-append-drop limit (x ∷ xs)

pub cut_joined : {X : Type 0} (limit : ℕ) (xs : List X) → 0 < limit → flat_map (λ part. part) (cut limit xs) ≡ xs
unfolding cut
cut_joined limit xs some = joined_by (length xs) limit xs some (omega arith)

filled_by : {X : Type 0} (fuel limit : ℕ) (xs : List X) → 0 < limit → AreFilled limit (cut_by fuel limit xs)
filled_by zero limit xs some = tt
filled_by (suc fuel) limit [] some = tt
filled_by {X} (suc fuel) limit (x ∷ xs) some = at fuel (drop limit (x ∷ xs)) refl (filled_by fuel limit (drop limit (x ∷ xs)) some) where
  short : length (take limit (x ∷ xs)) ≤ limit
  short = omega (arith, length-take limit (x ∷ xs))

  least : 0 < length (take limit (x ∷ xs))
  least = omega (arith, length-take limit (x ∷ xs))

  at : (more : ℕ) (rest : List X) → drop limit (x ∷ xs) ≡ rest → AreFilled limit (cut_by more limit rest) → AreFilled limit (take limit (x ∷ xs) ∷ cut_by more limit rest)
  at zero rest is filled = (least, short)
  at (suc more) [] is filled = (least, short)
  at (suc more) (y ∷ ys) is filled =
      let behind : length (drop limit (x ∷ xs)) ≡ suc (length xs) - limit = length-drop limit (x ∷ xs) in
      let some_left : length (drop limit (x ∷ xs)) ≡ suc (length ys) = ap length is in
      (omega (arith, length-take limit (x ∷ xs)), filled)

pub cut_filled : {X : Type 0} (limit : ℕ) (xs : List X) → 0 < limit → AreFilled limit (cut limit xs)
unfolding cut
cut_filled limit xs some = filled_by (length xs) limit xs some
