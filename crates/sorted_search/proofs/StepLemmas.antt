-- How often a list can be halved.
use Rattle.std.proofs.Common.{◌≡◌, ℕ, ◌+◌, ◌*◌, ◌^◌, ◌<◌, ◌≤◌, ◌⊎◌, inl, inr, List, length, get_or, max, sym, ◌∙◌, ap, subst, arith, All}
use Rattle.std.proofs.Math.Nat.{mul-le-mul_left, mul_assoc}
use Rattle.std.proofs.Math.Pow.{pow_mono}
use Rattle.std.proofs.lemmas.Bool.{cases_lt}
use Rattle.std.proofs.lemmas.Grind.{pow_more}

-- one more look, at a half
pub halved : (c d size half n : ℕ) → d ≡ c + 1 → 2 ^ c * size ≤ n → 2 * half ≤ size → 2 ^ d * half ≤ n
halved c d size half n next before le =
    let e : 2 ^ d * half ≡ 2 ^ c * (2 * half) = ap (λ k. 2 ^ k * half) next ∙ ap (λ p. p * half) (pow_more 2 c) ∙ mul_assoc (2 ^ c) 2 half in
    let m : 2 ^ c * (2 * half) ≤ 2 ^ c * size = mul-le-mul_left (2 ^ c) le in
    subst (λ (p : ℕ). p ≤ n) (sym e) (omega arith)

-- one more look, at a part that is not empty
pub looked : (c d size n : ℕ) → d ≡ c + 1 → 2 ^ c * size ≤ n → 0 < size → 2 ^ d ≤ max 1 (2 * n)
looked c d size n next before some =
    let one : 1 ≤ size = omega arith in
    let m : 2 ^ c * 1 ≤ 2 ^ c * size = mul-le-mul_left (2 ^ c) one in
    let e : 2 ^ d ≡ 2 ^ c * 2 = ap (λ k. 2 ^ k) next ∙ pow_more 2 c in
    omega arith

-- at most one more look, and none where nothing is kept
pub one_more : (c d n : ℕ) → 2 ^ c ≤ max 1 n → d ≤ c + 1 → (n ≡ 0 → d ≡ c) → 2 ^ d ≤ max 1 (2 * n)
one_more c d n few le none = at (cases_lt 0 n) where
  at : (0 < n) ⊎ (n ≤ 0) → 2 ^ d ≤ max 1 (2 * n)
  at (inl some) =
      let m : 2 ^ d ≤ 2 ^ (c + 1) = pow_mono le in
      let e : 2 ^ (c + 1) ≡ 2 ^ c * 2 = pow_more 2 c in
      omega arith
  at (inr zero) =
      let e : 2 ^ d ≡ 2 ^ c = ap (λ k. 2 ^ k) (none (omega arith)) in
      omega arith

-- where no element has the number, the range of those that have it is empty
pub no_range : {X : Type 0} (key : X → ℕ) (n : ℕ) (xs : List X) (x : X) (from to : ℕ) → from ≤ to → to ≤ length xs → ((k : ℕ) (d : X) → from ≤ k → k < to → key (get_or xs k d) ≡ n)
    → All (λ e. key e ≡ n → ⊥) xs → from ≡ to
no_range key n xs x from to le within inside none = at (cases_lt from to) where
  at : (from < to) ⊎ (to ≤ from) → from ≡ to
  at (inl lt) = absurd (none from x (omega arith) (inside from x (omega arith) lt))
  at (inr ge) = omega arith
