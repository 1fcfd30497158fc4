-- Numbers counted round and round below a number.
use Rattle.std.proofs.Common.{◌≡◌, inl, inr, ℕ, suc, ◌+◌, ◌-◌, ◌*◌, ◌/◌, ◌%◌, ◌<◌, sym, ◌∙◌, ap, arith}
use Rattle.std.proofs.lemmas.Bool.{cases_lt}
use Rattle.std.proofs.lemmas.Nat.{div-add-mod', div-mul-add, mod-mul-add, mod_below}
use Rattle.std.proofs.Math.Nat.{add-div_right, add-mod-mod, add-mod_left, add-mod_right, mod-add-mod, mod-eq_of_lt, mul-div_left, mul-mod_left, mod-mod}

-- less than a round leads elsewhere
moved : (c r t : ℕ) → r < c → 0 < t → t < c → (r + t) % c ≡ r → ⊥
moved c r t h some less e = elim (cases_lt (r + t) c) [
  | inl below ↦ (let same : (r + t) % c ≡ r + t = mod-eq_of_lt below in omega arith)
  | inr above ↦
      let w : ℕ = (r + t) - c in
      let is : r + t ≡ c + w = omega arith in
      let within : w < c = omega arith in
      let same : (r + t) % c ≡ w = ap (λ n. n % c) is ∙ add-mod_left c w ∙ mod-eq_of_lt within in
      omega arith
]

-- where a sum comes round to
sum_round : (c p m : ℕ) → (p + m) % c ≡ (p % c + m % c) % c
sum_round c p m = sym (mod-add-mod p c (m % c) ∙ add-mod-mod p m c)

-- the next number, in the same round
next_within : (c m : ℕ) → m % c + 1 < c → (suc m / c ≡ m / c) × (suc m % c ≡ m % c + 1)
next_within c m h =
    let is : suc m ≡ m / c * c + (m % c + 1) = omega (arith, div-add-mod' m c) in
    (ap (λ n. n / c) is ∙ div-mul-add (m / c) c (m % c + 1) h, ap (λ n. n % c) is ∙ mod-mul-add (m / c) c (m % c + 1) h)

-- the next number, which begins a round
next_over : (c m : ℕ) → 0 < c → m % c + 1 ≡ c → (suc m / c ≡ suc (m / c)) × (suc m % c ≡ 0)
next_over c m some h =
    let is : suc m ≡ m / c * c + c = omega (arith, div-add-mod' m c) in
    let rounds : m / c * c / c ≡ m / c = mul-div_left (m / c) some in
    let more : (m / c * c + c) / c ≡ m / c * c / c + 1 = add-div_right (m / c * c) some in
    let whole : suc m / c ≡ suc (m / c) = ap (λ n. n / c) is ∙ more ∙ omega (arith, rounds) in
    (whole, ap (λ n. n % c) is ∙ add-mod_right (m / c * c) c ∙ mul-mod_left (m / c) c)

-- a number of steps that leads back is of whole rounds
pub comes_round : (c p m : ℕ) → 0 < c → p % c ≡ (p + suc m) % c → suc m / c ≡ suc (m / c)
comes_round c p m some e = elim (cases_lt (m % c + 1) c) [
  | inl below ↦
      let back : (p % c + (m % c + 1)) % c ≡ p % c = ap (λ n. (p % c + n) % c) (sym (next_within c m below).1) ∙ sym (sum_round c p (suc m)) ∙ sym e in
      absurd (moved c (p % c) (m % c + 1) (mod_below p c some) (omega arith) below back)
  | inr above ↦ (let full : m % c + 1 ≡ c = omega (arith, mod_below m c some) in (next_over c m some full).0)
]

-- and another one is not
pub goes_on : (c p m : ℕ) → 0 < c → (p % c ≡ (p + suc m) % c → ⊥) → suc m / c ≡ m / c
goes_on c p m some ne = elim (cases_lt (m % c + 1) c) [
  | inl below ↦ (next_within c m below).0
  | inr above ↦
      let full : m % c + 1 ≡ c = omega (arith, mod_below m c some) in
      let plain : p % c + 0 ≡ p % c = omega arith in
      let back : (p + suc m) % c ≡ p % c = sum_round c p (suc m) ∙ ap (λ n. (p % c + n) % c) (next_over c m some full).1 ∙ ap (λ n. n % c) plain ∙ mod-mod p c in
      absurd (ne (sym back))
]

-- the next lane
pub lane_turns : (c p i at : ℕ) → at ≡ (p + i) % c → (at + 1) % c ≡ (p + (i + 1)) % c
lane_turns c p i at e =
    let is : p + i + 1 ≡ p + (i + 1) = omega arith in
    ap (λ n. (n + 1) % c) e ∙ mod-add-mod (p + i) c 1 ∙ ap (λ n. n % c) is
