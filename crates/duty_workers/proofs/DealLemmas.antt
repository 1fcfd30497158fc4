-- Lists dealt to lanes.
use Rattle.std.proofs.Common.{◌≡◌, ℕ, suc, ◌+◌, ◌/◌, ◌%◌, ◌<◌, Bool, true, false, List, [], ◌∷◌, ◌++◌, length, get_or, take, refl, sym, ◌∙◌, ap, arith}
use Rattle.std.specs.Prelude.{◌==◌, if◌then◌else◌}
use Rattle.std.specs.List.{list_all}
use Rattle.std.proofs.lemmas.Bool.{and_from, and_parts, eqb-true, eqb-false}
use Rattle.std.proofs.lemmas.List.{length-take-le, take_more}
use Rattle.std.proofs.Math.Nat.{zero-div}
use Rattle.duty_turns.specs.Lanes.{dealt}
use Rattle.duty_workers.specs.Shares.{kept}
use Rattle.duty_workers.proofs.TurnLemmas.{comes_round, goes_on}

-- these, behind one more where it is to be there
abbrev put : {X : Type 0} → Bool → X → List X → List X
put b x xs = if b then x ∷ xs else xs

put_none : {X : Type 0} (b : Bool) (x : X) → put b x [] ≡ kept b [] x
put_none true x = refl
put_none false x = refl

put_kept : {X : Type 0} (b e : Bool) (x y : X) (xs : List X) → put b x (kept e xs y) ≡ kept e (put b x xs) y
put_kept true true x y xs = refl
put_kept true false x y xs = refl
put_kept false true x y xs = refl
put_kept false false x y xs = refl

-- one more is dealt
pub dealt_push : {X : Type 0} (c k p : ℕ) (xs : List X) (y : X) → dealt c k p (xs ++ y ∷ []) ≡ kept ((p + length xs) % c == k) (dealt c k p xs) y
dealt_push {X} c k p [] y =
    let is : p ≡ p + 0 = omega arith in
    put_none (p % c == k) y ∙ ap (λ n. kept {X = X} (n % c == k) [] y) is
dealt_push {X} c k p (x ∷ xs) y =
    let is : p + 1 + length xs ≡ p + suc (length xs) = omega arith in
    ap (λ (l : List X). put (p % c == k) x l) (dealt_push c k (p + 1) xs y)
    ∙ put_kept (p % c == k) ((p + 1 + length xs) % c == k) x y (dealt c k (p + 1) xs)
    ∙ ap (λ n. kept (n % c == k) (dealt c k p (x ∷ xs)) y) is

-- the next of a list is dealt, or not
pub dealt_more : {X : Type 0} (c k p i at : ℕ) (xs mine now : List X) (d : X) → i < length xs → at ≡ (p + i) % c → mine ≡ dealt c k p (take i xs) → now ≡ kept (at == k) mine (get_or xs i d) → now ≡ dealt c k p (take (i + 1) xs)
dealt_more {X} c k p i at xs mine now d h turn so more =
    let x : X = get_or xs i d in
    let front : ℕ = length (take i xs) in
    let is : i ≡ front = sym (length-take-le i xs (omega arith)) in
    more ∙ ap (λ n. kept (n == k) mine x) (turn ∙ ap (λ n. (p + n) % c) is) ∙ ap (λ (l : List X). kept ((p + front) % c == k) l x) so
    ∙ sym (dealt_push c k p (take i xs) x) ∙ ap (λ (l : List X). dealt c k p l) (sym (take_more xs i d h))

-- ---- how many are dealt

count_put : {X : Type 0} (c k p m : ℕ) (b : Bool) (x : X) (xs : List X) → b ≡ (p % c == k) → 0 < c → k ≡ (p + suc m) % c → length xs ≡ m / c → length (put b x xs) ≡ suc m / c
count_put c k p m true x xs e some at l = ap suc l ∙ sym (comes_round c p m some (eqb-true (p % c) k (sym e) ∙ at))
count_put c k p m false x xs e some at l = l ∙ sym (goes_on c p m some (λ same. eqb-false (p % c) k (sym e) (same ∙ sym at)))

-- the lane that is next had one in each round
pub dealt_count : {X : Type 0} (c k p : ℕ) (xs : List X) → 0 < c → k ≡ (p + length xs) % c → length (dealt c k p xs) ≡ length xs / c
dealt_count c k p [] some at = sym (zero-div c)
dealt_count c k p (x ∷ xs) some at =
    let is : p + suc (length xs) ≡ p + 1 + length xs = omega arith in
    count_put c k p (length xs) (p % c == k) x (dealt c k (p + 1) xs) refl some at (dealt_count c k (p + 1) xs some (at ∙ ap (λ n. n % c) is))

same_put : {X Y : Type 0} (b : Bool) (x : X) (y : Y) (xs : List X) (ys : List Y) → length xs ≡ length ys → length (put b x xs) ≡ length (put b y ys)
same_put true x y xs ys e = ap suc e
same_put false x y xs ys e = e

-- lists of one length are dealt alike
pub dealt_same : {X Y : Type 0} (c k p : ℕ) (xs : List X) (ys : List Y) → length xs ≡ length ys → length (dealt c k p xs) ≡ length (dealt c k p ys)
dealt_same c k p [] [] e = refl
dealt_same c k p [] (y ∷ ys) e = absurd (omega arith)
dealt_same c k p (x ∷ xs) [] e = absurd (omega arith)
dealt_same c k p (x ∷ xs) (y ∷ ys) e = same_put (p % c == k) x y (dealt c k (p + 1) xs) (dealt c k (p + 1) ys) (dealt_same c k (p + 1) xs ys (omega arith))

-- ---- what is true of each

put_all : {X : Type 0} (t : X → Bool) (b : Bool) (x : X) (xs : List X) → t x ≡ true → list_all t xs ≡ true → list_all t (put b x xs) ≡ true
put_all t true x xs h i = and_from (t x) (list_all t xs) h i
put_all t false x xs h i = i

pub dealt_all : {X : Type 0} (t : X → Bool) (c k p : ℕ) (xs : List X) → list_all t xs ≡ true → list_all t (dealt c k p xs) ≡ true
dealt_all t c k p [] h = refl
dealt_all t c k p (x ∷ xs) h =
    let both = and_parts (t x) (list_all t xs) h in
    put_all t (p % c == k) x (dealt c k (p + 1) xs) both.0 (dealt_all t c k (p + 1) xs both.1)
