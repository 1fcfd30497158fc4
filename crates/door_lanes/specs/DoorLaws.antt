-- Whoever hands a connection back to a shared door by its own turns finds one lent.
use Rattle.std.specs.Prelude.{◌≡◌, ◌+◌, ◌≤◌, ◌==◌, ℕ, Bool, true, false, cond, List, [], ◌∷◌, ◌++◌, Option, Some, None, length, refl}
use Rattle.std.proofs.Common.{sym, ap, ◌∙◌, subst, append-nil, append_assoc, eqb-true, arith}
use Rattle.std.proofs.lemmas.List.{length-append}
use Rattle.edge_kit.specs.Doors.{Counts}
use Rattle.desk_lock.specs.Histories.{Legal, own}
use Rattle.door_lanes.specs.Doors.{AreLent, Asked, CanAsk, CountedSeen, MayAsk, Moves, TakeStep, Turn, answers, asks, calls, connection_in, connections_in, replies, returned, returned_in}

pub moves_none : (a : Option ℕ) → Moves a a 0 0
moves_none None = refl
moves_none (Some n) = refl

pub moves_on : (a b c : Option ℕ) (m l n k : ℕ) → Moves a b m l → Moves b c n k → Moves a c (m + n) (l + k)
moves_on None b c m l n k p q = subst (λ (x : Option ℕ). Moves x c n k) p q
moves_on (Some x) None c m l n k p q = absurd p
moves_on (Some x) (Some y) None m l n k p q = absurd q
moves_on (Some x) (Some y) (Some z) m l n k p q = omega (arith, p, q)

-- some were taken back, and then some were given
pub moves_one : (a b c : Option ℕ) (l m : ℕ) → Counts b a l → Counts b c m → Moves a c m l
moves_one a None c l m p q = subst (λ (x : Option ℕ). Moves x c m l) (sym p) q
moves_one a (Some y) c l m p q =
    let e : (y + m) + l ≡ (y + l) + m = omega arith in
    subst (λ (x : Option ℕ). Moves x c m l) (sym p) (subst (λ (x : Option ℕ). Moves (Some (y + l)) x m l) (sym q) e)

-- more were given than were taken back
pub moves_lent : (a b : Option ℕ) (m l k : ℕ) → Moves a b m l → l + k ≤ m → AreLent b k
moves_lent a None m l k p le = tt
moves_lent None (Some y) m l k p le = absurd (cc p)
moves_lent (Some x) (Some y) m l k p le = omega (arith, p, le)

-- all callers, and those but this one
abbrev all : ℕ → Bool
all k = true

abbrev but : ℕ → (ℕ → Bool) → ℕ → Bool
but k f j = cond (j == k) false (f j)

module _ {C : Type 0} where
  -- how many the turns of those callers were given, and how many they handed back
  abbrev given_by : (ℕ → Bool) → List (Turn C) → ℕ
  given_by f [] = 0
  given_by f (e ∷ es) = cond (f e.by) (length (connection_in e.reply)) 0 + given_by f es

  abbrev back_by : (ℕ → Bool) → List (Turn C) → ℕ
  back_by f [] = 0
  back_by f (e ∷ es) = cond (f e.by) (length (returned e.call)) 0 + back_by f es

  given_all : (log : List (Turn C)) → given_by all log ≡ length (connections_in (replies log))
  given_all [] = refl
  given_all (e ∷ es) = let i = given_all es in let l = length-append (connection_in e.reply) (connections_in (replies es)) in omega (arith, i, l)

  back_all : (log : List (Turn C)) → back_by all log ≡ length (returned_in (asks log))
  back_all [] = refl
  back_all (e ∷ es) = let i = back_all es in let l = length-append (returned e.call) (returned_in (asks es)) in omega (arith, i, l)

  given_more : (f : ℕ → Bool) (log : List (Turn C)) (e : Turn C) → given_by f (log ++ e ∷ []) ≡ given_by f log + cond (f e.by) (length (connection_in e.reply)) 0
  given_more f [] e = omega arith
  given_more f (d ∷ log) e = let i = given_more f log e in omega (arith, i)

  back_more : (f : ℕ → Bool) (log : List (Turn C)) (e : Turn C) → back_by f (log ++ e ∷ []) ≡ back_by f log + cond (f e.by) (length (returned e.call)) 0
  back_more f [] e = omega arith
  back_more f (d ∷ log) e = let i = back_more f log e in omega (arith, i)

  cond_given : (b g : Bool) (x : Asked C) (ys : List (Asked C)) (n : ℕ) → (b ≡ true → g ≡ true)
      → cond g (length (connection_in x.1)) 0 + (length (connections_in (answers ys)) + n) ≡ length (connections_in (answers (cond b (x ∷ ys) ys))) + (cond (cond b false g) (length (connection_in x.1)) 0 + n)
  cond_given true true x ys n h = let l = length-append (connection_in x.1) (connections_in (answers ys)) in omega (arith, l)
  cond_given true false x ys n h = absurd (cc (h refl))
  cond_given false g x ys n h = omega arith

  cond_back : (b g : Bool) (x : Asked C) (ys : List (Asked C)) (n : ℕ) → (b ≡ true → g ≡ true)
      → cond g (length (returned x.0)) 0 + (length (returned_in (calls ys)) + n) ≡ length (returned_in (calls (cond b (x ∷ ys) ys))) + (cond (cond b false g) (length (returned x.0)) 0 + n)
  cond_back true true x ys n h = let l = length-append (returned x.0) (returned_in (calls ys)) in omega (arith, l)
  cond_back true false x ys n h = absurd (cc (h refl))
  cond_back false g x ys n h = omega arith

  -- one of them and the others
  given_split : (f : ℕ → Bool) (k : ℕ) → f k ≡ true → (log : List (Turn C)) → given_by f log ≡ length (connections_in (answers (own k log))) + given_by (but k f) log
  given_split f k is [] = refl
  given_split f k is (e ∷ es) =
      let i = given_split f k is es in
      let at : (e.by == k) ≡ true → f e.by ≡ true = λ q. ap f (eqb-true e.by k q) ∙ is in
      let c = cond_given (e.by == k) (f e.by) (e.call, e.reply) (own k es) (given_by (but k f) es) at in
      ap (λ (n : ℕ). cond (f e.by) (length (connection_in e.reply)) 0 + n) i ∙ c

  back_split : (f : ℕ → Bool) (k : ℕ) → f k ≡ true → (log : List (Turn C)) → back_by f log ≡ length (returned_in (calls (own k log))) + back_by (but k f) log
  back_split f k is [] = refl
  back_split f k is (e ∷ es) =
      let i = back_split f k is es in
      let at : (e.by == k) ≡ true → f e.by ≡ true = λ q. ap f (eqb-true e.by k q) ∙ is in
      let c = cond_back (e.by == k) (f e.by) (e.call, e.reply) (own k es) (back_by (but k f) es) at in
      ap (λ (n : ℕ). cond (f e.by) (length (returned e.call)) 0 + n) i ∙ c

  -- no callers handed back more than they were given
  abbrev Kept : List (Turn C) → Type 0
  Kept log = (f : ℕ → Bool) → back_by f log ≤ given_by f log

  kept_one : (log : List (Turn C)) (e : Turn C) → Kept log → MayAsk (own e.by log) e.call → Kept (log ++ e ∷ [])
  kept_one log e h may f = at (f e.by) refl
    where
      at : (b : Bool) → f e.by ≡ b → back_by f (log ++ e ∷ []) ≤ given_by f (log ++ e ∷ [])
      at true is =
          let x = back_split f e.by is log in
          let y = given_split f e.by is log in
          let o = h (but e.by f) in
          let p : back_by f (log ++ e ∷ []) ≡ back_by f log + length (returned e.call) = back_more f log e ∙ ap (λ (b : Bool). back_by f log + cond b (length (returned e.call)) 0) is in
          let q : given_by f (log ++ e ∷ []) ≡ given_by f log + length (connection_in e.reply) = given_more f log e ∙ ap (λ (b : Bool). given_by f log + cond b (length (connection_in e.reply)) 0) is in
          omega (arith, x, y, o, p, q, may)
      at false is =
          let o = h f in
          let p : back_by f (log ++ e ∷ []) ≡ back_by f log + 0 = back_more f log e ∙ ap (λ (b : Bool). back_by f log + cond b (length (returned e.call)) 0) is in
          let q : given_by f (log ++ e ∷ []) ≡ given_by f log + 0 = given_more f log e ∙ ap (λ (b : Bool). given_by f log + cond b (length (connection_in e.reply)) 0) is in
          omega (arith, o, p, q)

  kept_log : (before : List (Turn C)) (s : CountedSeen C) (log : List (Turn C)) (t : CountedSeen C) → Legal TakeStep MayAsk before s log t → Kept before → Kept (before ++ log)
  kept_log before s [] t l h = subst (λ (x : List (Turn C)). Kept x) (sym (append-nil before)) h
  kept_log before s (e ∷ es) t l h = subst (λ (x : List (Turn C)). Kept x) (append_assoc before (e ∷ []) es) (kept_log (before ++ e ∷ []) l.0 es t l.3 (kept_one before e h l.1))

  -- what the turns of a history moved
  pub log_moves : (before : List (Turn C)) (s : CountedSeen C) (log : List (Turn C)) (t : CountedSeen C) → Legal TakeStep MayAsk before s log t
      → Moves s.door.lent t.door.lent (length (connections_in (replies log))) (length (returned_in (asks log)))
  log_moves before s [] t l = subst (λ (x : CountedSeen C). Moves s.door.lent x.door.lent 0 0) (sym l) (moves_none s.door.lent)
  log_moves before s (e ∷ es) t l =
      let m : CountedSeen C = l.0 in
      let one : Moves s.door.lent m.door.lent (length (connection_in e.reply)) (length (returned e.call)) = moves_one s.door.lent l.2.between.lent m.door.lent (length (returned e.call)) (length (connection_in e.reply)) l.2.took.lent l.2.next.lent in
      let rest = log_moves (before ++ e ∷ []) m es t l.3 in
      let both = moves_on s.door.lent m.door.lent t.door.lent (length (connection_in e.reply)) (length (returned e.call)) (length (connections_in (replies es))) (length (returned_in (asks es))) one rest in
      subst (λ (n : ℕ). Moves s.door.lent t.door.lent n (length (returned e.call ++ returned_in (asks es)))) (sym (length-append (connection_in e.reply) (connections_in (replies es))))
      (subst (λ (n : ℕ). Moves s.door.lent t.door.lent (length (connection_in e.reply) + length (connections_in (replies es))) n) (sym (length-append (returned e.call) (returned_in (asks es)))) both)

  pub door_admits : (s t : CountedSeen C) (log : List (Turn C)) (by : ℕ) (back : Option C) → Legal TakeStep MayAsk [] s log t → MayAsk (own by log) back → CanAsk t back
  door_admits s t log by back l may =
      let o = kept_log [] s log t l (λ f. omega arith) (but by all) in
      let x = back_split all by refl log in
      let y = given_split all by refl log in
      let b = back_all log in
      let g = given_all log in
      moves_lent s.door.lent t.door.lent (length (connections_in (replies log))) (length (returned_in (asks log))) (length (returned back)) (log_moves [] s log t l) (omega (arith, o, x, y, b, g, may))
