-- What a legal history adds up to.
use Rattle.std.proofs.Common.{◌≡◌, ◌≢◌, ℕ, zero, suc, ◌+◌, ◌%◌, ◌^◌, ◌<◌, ◌≤◌, cond, Bool, List, [], ◌∷◌, ◌++◌, length, refl, sym, slice_get, Some, ap, ◌∙◌, subst, true, false, ◌==◌, eq-eqb, ne_eqb, mod-eq_of_lt, mod-lt, lit<, arith}
use Rattle.std.proofs.Math.Nat.{add-mod-mod}
use Rattle.desk_lock.specs.declared.types.Entry.{Entry}
use Rattle.atomic_table.specs.declared.shared.Seat.{Seat}
use Rattle.desk_lock.specs.declared.types.Held.{Held}
use Rattle.desk_lock.specs.declared.types.View.{View}
use Rattle.desk_lock.specs.Histories.{entry, own, Legal}
use Rattle.desk_lock.specs.Passes.{Closes, made}
use Rattle.thread_tests.specs.declared.counter.Counter.{Counter}
use Rattle.thread_tests.specs.Counting.{Steps, May}

abbrev pub sum_calls : List (Entry ℕ ℕ) → ℕ
sum_calls [] = 0
sum_calls (e ∷ es) = e.call + sum_calls es

abbrev pub sum_own : List (ℕ × ℕ) → ℕ
sum_own [] = 0
sum_own (x ∷ xs) = x.0 + sum_own xs

pub legal_sum : (before : List (Entry ℕ ℕ)) (s : Counter) (log : List (Entry ℕ ℕ)) (t : Counter) → s.total < 2 ^ 64 → Legal Steps May before s log t → t.total ≡ (sum_calls log + s.total) % 2 ^ 64
legal_sum before s [] t small l = ap (λ (c : Counter). c.total) l ∙ sym (mod-eq_of_lt small) ∙ ap (λ n. n % 2 ^ 64) (omega arith)
legal_sum before s (e ∷ es) t small l =
    let m = l.0 in
    let step : m.total ≡ (s.total + e.call) % 2 ^ 64 = l.2.1 in
    let fits : m.total < 2 ^ 64 = subst (λ (n : ℕ). n < 2 ^ 64) (sym step) (mod-lt (s.total + e.call) (lit< tt)) in
    legal_sum (before ++ e ∷ []) m es t fits l.3
    ∙ ap (λ n. (sum_calls es + n) % 2 ^ 64) step
    ∙ add-mod-mod (sum_calls es) (s.total + e.call) (2 ^ 64)
    ∙ ap (λ n. n % 2 ^ 64) (omega arith)

-- one turn more at the front
front : (by c r : ℕ) (es : List (Entry ℕ ℕ)) → ((k : ℕ) → 2 ≤ k → own k (entry by c r ∷ es) ≡ [])
    → sum_own (own 0 (entry by c r ∷ es)) + sum_own (own 1 (entry by c r ∷ es)) ≡ c + (sum_own (own 0 es) + sum_own (own 1 es))
front zero c r es none = omega arith
front (suc zero) c r es none = omega arith
front (suc (suc n)) c r es none =
    let is : cond (suc (suc n) == suc (suc n)) ((c, r) ∷ own (suc (suc n)) es) (own (suc (suc n)) es) ≡ [] = none (suc (suc n)) (omega arith) in
    let more : (c, r) ∷ own (suc (suc n)) es ≡ [] = sym (ap (λ (b : Bool). cond b ((c, r) ∷ own (suc (suc n)) es) (own (suc (suc n)) es)) (eq-eqb (suc (suc n)) (suc (suc n)) refl)) ∙ is in
    absurd (cc more)

none_after : (e : Entry ℕ ℕ) (es : List (Entry ℕ ℕ)) (k : ℕ) (b : Bool) → cond b ((e.call, e.reply) ∷ own k es) (own k es) ≡ [] → own k es ≡ []
none_after e es k true h = absurd (cc h)
none_after e es k false h = h

pub two_own : (log : List (Entry ℕ ℕ)) → ((k : ℕ) → 2 ≤ k → own k log ≡ []) → sum_calls log ≡ sum_own (own 0 log) + sum_own (own 1 log)
two_own [] none = refl
two_own (e ∷ es) none =
    ap (λ n. e.call + n) (two_own es (λ k le. none_after e es k (e.by == k) (none k le)))
    ∙ sym (front e.by e.call e.reply es none)

abbrev Place : Type 0
Place = Seat (Held Counter ℕ ℕ) (View Counter ℕ ℕ)

pub both_sum : (passes : List Place) (p q : Place) (a b : ℕ) (opened value : Counter) → passes ≡ p ∷ q ∷ [] → Closes Steps May opened passes value → opened.total ≡ 0
    → ((r : ℕ) × (made p ≡ (a, r) ∷ [])) → ((r : ℕ) × (made q ≡ (b, r) ∷ [])) → value.total ≡ (a + b) % 2 ^ 64
both_sum passes p q a b opened value is k none first second =
    let first_own : own 0 k.log ≡ (a, first.0) ∷ [] = k.own_is 0 p (ap (λ (l : List Place). slice_get l 0) is) ∙ first.1 in
    let second_own : own 1 k.log ≡ (b, second.0) ∷ [] = k.own_is 1 q (ap (λ (l : List Place). slice_get l 1) is) ∙ second.1 in
    let long : length passes ≡ 2 = ap length is in
    let sum = two_own k.log (λ n le. k.no_others n (omega arith)) in
    let total : sum_calls k.log + opened.total ≡ a + b = omega (arith, ap sum_own first_own, ap sum_own second_own) in
    legal_sum [] opened k.log value (subst (λ (n : ℕ). n < 2 ^ 64) (sym none) (lit< tt)) k.legal ∙ ap (λ n. n % 2 ^ 64) total
