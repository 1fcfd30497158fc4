-- What changed the state of a watch is enough to go on from.
use Rattle.std.proofs.Common.{◌≡◌, ◌↔◌, ◌⊎◌, inl, inr, ℕ, suc, ◌+◌, ◌==◌, ◌<◌, ◌≤◌, ◌||◌, ◌&&◌, not, nat_lt, max, cond, Bool, true, false, List, [], ◌∷◌, ◌++◌, length, take, Option, Some, None, refl, sym, ap, subst, ◌∙◌, append_assoc, arith, length-append}
use Rattle.std.specs.List.{list_any}
use Rattle.std.proofs.Math.Seq.{take-append_seam}
use Rattle.std.proofs.lemmas.Bool.{cases_Bool, eq-eqb, ne_eqb, eqb-true}
use Rattle.std.proofs.lemmas.List.{append-nil, take-append-le, take_all}
use Rattle.doppel_watch.specs.Watching.{Telling, by_missing, latest, counted, was_live, was_absent, watch_state, same_epoch, is_same, has_changed, picked, kept}
use Rattle.doppel_watch.specs.declared.watch.WatchState.{WatchState}
use Rattle.doppel_watch.specs.declared.watch.WatchState.TheVariants as state
use Rattle.doppel_watch.proofs.TellingLemmas.{any-push, latest-push, at_its_moment, counted-push, is_absence}

-- ---- two states are the same

and_true : (a b : Bool) → (a && b) ≡ true → (a ≡ true) × (b ≡ true)
and_true true b h = (refl, h)
and_true false b h = absurd cc

epoch_to : (d g : Option ℕ) → same_epoch d g ≡ true → d ≡ g
epoch_to None None h = refl
epoch_to None (Some f) h = absurd cc
epoch_to (Some e) None h = absurd cc
epoch_to (Some e) (Some f) h = ap (λ (n : ℕ). Some n) (eqb-true e f h)

epoch_refl : (d : Option ℕ) → same_epoch d d ≡ true
epoch_refl None = refl
epoch_refl (Some e) = eq-eqb e e refl

same_to : (a b : WatchState) → is_same a b ≡ true → a ≡ b
same_to state.Allowed state.Allowed h = refl
same_to state.Allowed (state.Missing f g) h = absurd cc
same_to state.Allowed (state.Live f) h = absurd cc
same_to (state.Missing e d) state.Allowed h = absurd cc
same_to (state.Missing e d) (state.Missing f g) h =
    let both = and_true (e == f) (same_epoch d g) h in
    let epochs : e ≡ f = eqb-true e f both.0 in
    let others : d ≡ g = epoch_to d g both.1 in
    cc
same_to (state.Missing e d) (state.Live f) h = absurd cc
same_to (state.Live e) state.Allowed h = absurd cc
same_to (state.Live e) (state.Missing f g) h = absurd cc
same_to (state.Live e) (state.Live f) h = let epochs : e ≡ f = eqb-true e f h in cc

same_refl : (a : WatchState) → is_same a a ≡ true
same_refl state.Allowed = refl
same_refl (state.Missing e d) = rw (eq-eqb e e refl) (epoch_refl d)
same_refl (state.Live e) = eq-eqb e e refl

pub same_decides : (a b : WatchState) → (is_same a b ≡ true) ↔ (a ≡ b)
same_decides a b = (same_to a b, λ e. subst (λ (x : WatchState). is_same a x ≡ true) e (same_refl a))

-- ---- the state by what counts of the two epochs

abbrev state_by : ℕ → Bool → Bool → Bool → Bool → WatchState
state_by s a b c d = cond a (state.Live (s + 1)) (cond b (state.Live (s + 2)) (by_missing (cond c [] ((s + 1) ∷ []) ++ cond d [] ((s + 2) ∷ []))))

-- what a state tells of them
abbrev tells_first : ℕ → WatchState → Bool
tells_first s state.Allowed = false
tells_first s (state.Missing e d) = false
tells_first s (state.Live e) = e == s + 1

abbrev tells_live : WatchState → Bool
tells_live state.Allowed = false
tells_live (state.Missing e d) = false
tells_live (state.Live e) = true

abbrev tells_first_absent : ℕ → WatchState → Bool
tells_first_absent s state.Allowed = true
tells_first_absent s (state.Missing e d) = not (e == s + 1)
tells_first_absent s (state.Live e) = true

abbrev tells_second_absent : ℕ → WatchState → Bool
tells_second_absent s state.Allowed = true
tells_second_absent s (state.Missing e None) = e == s + 1
tells_second_absent s (state.Missing e (Some f)) = false
tells_second_absent s (state.Live e) = true

same_number : (n : ℕ) → (n == n) ≡ true
same_number n = eq-eqb n n refl

later_epoch : (s : ℕ) → (s + 2 == s + 1) ≡ false
later_epoch s = ne_eqb (s + 2) (s + 1) (λ same. absurd (omega arith))

first_told : (s : ℕ) (a b c d : Bool) → tells_first s (state_by s a b c d) ≡ a
first_told s true b c d = same_number (s + 1)
first_told s false true c d = later_epoch s
first_told s false false true true = refl
first_told s false false true false = refl
first_told s false false false true = refl
first_told s false false false false = refl

live_told : (s : ℕ) (b c d : Bool) → tells_live (state_by s false b c d) ≡ b
live_told s true c d = refl
live_told s false true true = refl
live_told s false true false = refl
live_told s false false true = refl
live_told s false false false = refl

first_absent_told : (s : ℕ) (c d : Bool) → tells_first_absent s (state_by s false false c d) ≡ c
first_absent_told s true true = refl
first_absent_told s true false = rw (later_epoch s) refl
first_absent_told s false true = rw (same_number (s + 1)) refl
first_absent_told s false false = rw (same_number (s + 1)) refl

second_absent_told : (s : ℕ) (c d : Bool) → tells_second_absent s (state_by s false false c d) ≡ d
second_absent_told s true true = refl
second_absent_told s true false = later_epoch s
second_absent_told s false true = same_number (s + 1)
second_absent_told s false false = refl

-- what two equal states share
pub record Shares (a b c d a' b' c' d' : Bool) : Type 0 where
  pub first : a ≡ a'
  pub second : a ≡ false → b ≡ b'
  pub absent : a ≡ false → b ≡ false → (c ≡ c') × (d ≡ d')

shares : (s : ℕ) (a b c d a' b' c' d' : Bool) → state_by s a b c d ≡ state_by s a' b' c' d' → Shares a b c d a' b' c' d'
shares s a b c d a' b' c' d' same = record { first = first; second = second; absent = absent }
  where
    first : a ≡ a'
    first = sym (first_told s a b c d) ∙ ap (tells_first s) same ∙ first_told s a' b' c' d'

    none : (x y : Bool) → x ≡ false → state_by s x y c d ≡ state_by s false y c d
    none x y e = rw e refl

    same_behind : a ≡ false → state_by s false b c d ≡ state_by s false b' c' d'
    same_behind e = subst (λ (x : Bool). state_by s x b c d ≡ state_by s false b' c' d') e (subst (λ (x : Bool). state_by s a b c d ≡ state_by s x b' c' d') (sym first ∙ e) same)

    second : a ≡ false → b ≡ b'
    second e = sym (live_told s b c d) ∙ ap tells_live (same_behind e) ∙ live_told s b' c' d'

    same_missing : a ≡ false → b ≡ false → state_by s false false c d ≡ state_by s false false c' d'
    same_missing e f = subst (λ (x : Bool). state_by s false x c d ≡ state_by s false false c' d') f (subst (λ (x : Bool). state_by s false b c d ≡ state_by s false x c' d') (sym (second e) ∙ f) (same_behind e))

    absent : a ≡ false → b ≡ false → (c ≡ c') × (d ≡ d')
    absent e f = (
      sym (first_absent_told s c d) ∙ ap (tells_first_absent s) (same_missing e f) ∙ first_absent_told s c' d',
      sym (second_absent_told s c d) ∙ ap (tells_second_absent s) (same_missing e f) ∙ second_absent_told s c' d',
    )

-- and what is told more keeps them equal
shared_more : (s : ℕ) (a b c d a' b' c' d' : Bool) → Shares a b c d a' b' c' d' → (x y z w : Bool)
    → state_by s (a || x) (b || y) (c || z) (d || w) ≡ state_by s (a' || x) (b' || y) (c' || z) (d' || w)
shared_more s true b c d a' b' c' d' p x y z w = rw (sym p.first) refl
shared_more s false b c d a' b' c' d' p true y z w = rw (sym p.first) refl
shared_more s false true c d a' b' c' d' p false y z w = rw (sym p.first, sym (p.second refl)) refl
shared_more s false false c d a' b' c' d' p false true z w = rw (sym p.first, sym (p.second refl)) refl
shared_more s false false c d a' b' c' d' p false false z w = rw (sym p.first, sym (p.second refl), sym (p.absent refl refl).0, sym (p.absent refl refl).1) refl

was_live-more : (e : ℕ) (ts : List Telling) (t : Telling) → was_live e (ts ++ t ∷ []) ≡ (was_live e ts || (t.live && t.epoch == e))
was_live-more e ts t = any-push (λ t. t.live && t.epoch == e) ts t

was_absent-more : (s e : ℕ) (ts : List Telling) (t : Telling) → was_absent s e (ts ++ t ∷ []) ≡ (was_absent s e ts || (not t.live && t.epoch == e && nat_lt e (max (latest s ts) t.moment)))
was_absent-more s e ts t = ap (list_any (is_absence e)) (counted-push s ts t) ∙ any-push (is_absence e) (counted s ts) (at_its_moment s ts t)

-- whatever is told more, at the same moment as it counts
state_more : (s : ℕ) (us ts : List Telling) (u t : Telling) → watch_state s us ≡ watch_state s ts → u.epoch ≡ t.epoch → u.live ≡ t.live → max (latest s us) u.moment ≡ max (latest s ts) t.moment
    → watch_state s (us ++ u ∷ []) ≡ watch_state s (ts ++ t ∷ [])
state_more s us ts u t same epoch live moment =
    let p = shares s (was_live (s + 1) us) (was_live (s + 2) us) (was_absent s (s + 1) us) (was_absent s (s + 2) us) (was_live (s + 1) ts) (was_live (s + 2) ts) (was_absent s (s + 1) ts) (was_absent s (s + 2) ts) same in
    let more = shared_more s (was_live (s + 1) us) (was_live (s + 2) us) (was_absent s (s + 1) us) (was_absent s (s + 2) us) (was_live (s + 1) ts) (was_live (s + 2) ts) (was_absent s (s + 1) ts) (was_absent s (s + 2) ts) p
    (t.live && t.epoch == s + 1) (t.live && t.epoch == s + 2) (not t.live && t.epoch == s + 1 && nat_lt (s + 1) (max (latest s ts) t.moment)) (not t.live && t.epoch == s + 2 && nat_lt (s + 2) (max (latest s ts) t.moment)) in
    states (was_live-of (s + 1) us) (was_live-of (s + 2) us) (was_absent-of (s + 1) us) (was_absent-of (s + 2) us)
    ∙ more
    ∙ sym (states (was_live-more (s + 1) ts t) (was_live-more (s + 2) ts t) (was_absent-more s (s + 1) ts t) (was_absent-more s (s + 2) ts t))
  where
    states : {a b c d a' b' c' d' : Bool} → a ≡ a' → b ≡ b' → c ≡ c' → d ≡ d' → state_by s a b c d ≡ state_by s a' b' c' d'
    states p q r o = cc

    was_live-of : (e : ℕ) (l : List Telling) → was_live e (l ++ u ∷ []) ≡ (was_live e l || (t.live && t.epoch == e))
    was_live-of e l = was_live-more e l u ∙ ap (λ (b : Bool). was_live e l || (b && u.epoch == e)) live ∙ ap (λ (n : ℕ). was_live e l || (t.live && n == e)) epoch

    was_absent-of : (e : ℕ) (l : List Telling) → was_absent s e (us ++ u ∷ []) ≡ (was_absent s e us || (not t.live && t.epoch == e && nat_lt e (max (latest s ts) t.moment)))
    was_absent-of e l = was_absent-more s e us u
        ∙ ap (λ (b : Bool). was_absent s e us || (not b && u.epoch == e && nat_lt e (max (latest s us) u.moment))) live
        ∙ ap (λ (n : ℕ). was_absent s e us || (not t.live && n == e && nat_lt e (max (latest s us) u.moment))) epoch
        ∙ ap (λ (n : ℕ). was_absent s e us || (not t.live && t.epoch == e && nat_lt e n)) moment

-- ---- one more telling, and what is kept

picked-same : (p q : ℕ → Bool) (ts : List Telling) → ((i : ℕ) → i < length ts → p i ≡ q i) → picked p ts ≡ picked q ts
picked-same p q [] same = refl
picked-same p q (t ∷ ts) same =
    let first : p 0 ≡ q 0 = same 0 (omega arith) in
    let rest : picked (λ i. p (suc i)) ts ≡ picked (λ i. q (suc i)) ts = picked-same (λ i. p (suc i)) (λ i. q (suc i)) ts (λ i lt. same (suc i) (omega arith)) in
    ap (λ (b : Bool). cond b (t ∷ picked (λ i. p (suc i)) ts) (picked (λ i. p (suc i)) ts)) first
    ∙ ap (λ (l : List Telling). cond (q 0) (t ∷ l) l) rest

picked-push : (p : ℕ → Bool) (ts : List Telling) (t : Telling) → picked p (ts ++ t ∷ []) ≡ picked p ts ++ cond (p (length ts)) (t ∷ []) []
picked-push p [] t = refl
picked-push p (x ∷ ts) t =
    ap (λ (l : List Telling). cond (p 0) (x ∷ l) l) (picked-push (λ i. p (suc i)) ts t)
    ∙ split (p 0) (picked (λ i. p (suc i)) ts) (cond (p (suc (length ts))) (t ∷ []) [])
  where
    split : (b : Bool) (l m : List Telling) → cond b (x ∷ (l ++ m)) (l ++ m) ≡ cond b (x ∷ l) l ++ m
    split true l m = refl
    split false l m = refl

length-counted : (s : ℕ) (ts : List Telling) → length (counted s ts) ≡ length ts
length-counted s [] = refl
length-counted s (t ∷ ts) = omega (arith, length-counted (max s t.moment) ts)

-- whether one more changes the state
abbrev pub changes : ℕ → List Telling → Telling → Bool
changes s ts t = not (is_same (watch_state s ts) (watch_state s (ts ++ t ∷ [])))

pub kept-push : (s : ℕ) (ts : List Telling) (t : Telling) → kept s (ts ++ t ∷ []) ≡ kept s ts ++ cond (changes s ts t) (at_its_moment s ts t ∷ []) []
kept-push s ts t =
    ap (picked (has_changed s (ts ++ t ∷ []))) (counted-push s ts t)
    ∙ picked-push (has_changed s (ts ++ t ∷ [])) (counted s ts) (at_its_moment s ts t)
    ∙ ap (λ (l : List Telling). l ++ cond (has_changed s (ts ++ t ∷ []) (length (counted s ts))) (at_its_moment s ts t ∷ []) []) (picked-same (has_changed s (ts ++ t ∷ [])) (has_changed s ts) (counted s ts) before)
    ∙ ap (λ (b : Bool). kept s ts ++ cond b (at_its_moment s ts t ∷ []) []) last
  where
    before : (i : ℕ) → i < length (counted s ts) → has_changed s (ts ++ t ∷ []) i ≡ has_changed s ts i
    before i lt =
        let within : i < length ts = omega (arith, length-counted s ts) in
        let here : take i (ts ++ t ∷ []) ≡ take i ts = take-append-le i ts (t ∷ []) (omega arith) in
        let next : take (suc i) (ts ++ t ∷ []) ≡ take (suc i) ts = take-append-le (suc i) ts (t ∷ []) (omega arith) in
        ap (λ (l : List Telling). not (is_same (watch_state s l) (watch_state s (take (suc i) (ts ++ t ∷ []))))) here
        ∙ ap (λ (l : List Telling). not (is_same (watch_state s (take i ts)) (watch_state s l))) next

    last : has_changed s (ts ++ t ∷ []) (length (counted s ts)) ≡ changes s ts t
    last =
        let all : take (length ts) (ts ++ t ∷ []) ≡ ts = take-append_seam ts (t ∷ []) in
        let more : take (suc (length ts)) (ts ++ t ∷ []) ≡ ts ++ t ∷ [] = take_all (suc (length ts)) (ts ++ t ∷ []) (omega (arith, length-append ts (t ∷ []))) in
        ap (has_changed s (ts ++ t ∷ [])) (length-counted s ts)
        ∙ ap (λ (l : List Telling). not (is_same (watch_state s l) (watch_state s (take (suc (length ts)) (ts ++ t ∷ []))))) all
        ∙ ap (λ (l : List Telling). not (is_same (watch_state s ts) (watch_state s l))) more

same_change : (s : ℕ) (ts : List Telling) (t : Telling) → watch_state s ts ≡ watch_state s (ts ++ t ∷ []) → changes s ts t ≡ false
same_change s ts t same = ap not ((same_decides (watch_state s ts) (watch_state s (ts ++ t ∷ []))).1 same)

pub kept-same : (s : ℕ) (ts : List Telling) (t : Telling) → watch_state s ts ≡ watch_state s (ts ++ t ∷ []) → kept s (ts ++ t ∷ []) ≡ kept s ts
kept-same s ts t same = kept-push s ts t ∙ ap (λ (b : Bool). kept s ts ++ cond b (at_its_moment s ts t ∷ []) []) (same_change s ts t same) ∙ append-nil (kept s ts)

changed_change : (s : ℕ) (ts : List Telling) (t : Telling) → (watch_state s ts ≡ watch_state s (ts ++ t ∷ []) → ⊥) → changes s ts t ≡ true
changed_change s ts t other = elim (cases_Bool (is_same (watch_state s ts) (watch_state s (ts ++ t ∷ [])))) [
  | inl same ↦ absurd (other ((same_decides (watch_state s ts) (watch_state s (ts ++ t ∷ []))).0 same))
  | inr differs ↦ ap not differs
]

pub kept-more : (s : ℕ) (ts : List Telling) (t : Telling) → (watch_state s ts ≡ watch_state s (ts ++ t ∷ []) → ⊥) → kept s (ts ++ t ∷ []) ≡ kept s ts ++ at_its_moment s ts t ∷ []
kept-more s ts t other = kept-push s ts t ∙ ap (λ (b : Bool). kept s ts ++ cond b (at_its_moment s ts t ∷ []) []) (changed_change s ts t other)

-- either the state stays or it changes
cases_change : (s : ℕ) (ts : List Telling) (t : Telling) → (watch_state s ts ≡ watch_state s (ts ++ t ∷ [])) ⊎ (watch_state s ts ≡ watch_state s (ts ++ t ∷ []) → ⊥)
cases_change s ts t = elim (cases_Bool (is_same (watch_state s ts) (watch_state s (ts ++ t ∷ [])))) [
  | inl same ↦ inl ((same_decides (watch_state s ts) (watch_state s (ts ++ t ∷ []))).0 same)
  | inr differs ↦ inr (λ same. absurd (apart (is_same (watch_state s ts) (watch_state s (ts ++ t ∷ []))) ((same_decides (watch_state s ts) (watch_state s (ts ++ t ∷ []))).1 same) differs))
]
  where
    apart : (b : Bool) → b ≡ true → b ≡ false → ⊥
    apart b is isnt = cc

-- what holds of nothing told, and stays with one more, holds
along : (P : List Telling → Type 0) → P [] → ((ts : List Telling) (t : Telling) → P ts → P (ts ++ t ∷ [])) → (ts : List Telling) → P ts
along P none more ts = go [] none ts
  where
    go : (front : List Telling) → P front → (rest : List Telling) → P (front ++ rest)
    go front here [] = subst P (sym (append-nil front)) here
    go front here (t ∷ rest) = subst P (append_assoc front (t ∷ []) rest) (go (front ++ t ∷ []) (more front t here) rest)

-- ---- at most four are kept

abbrev one_if : Bool → ℕ
one_if true = 1
one_if false = 0

-- how far a watch has come
abbrev come : Bool → Bool → Bool → Bool → ℕ
come a b c d = cond a 4 (cond b 3 (one_if c + one_if d))

come_most : (a b c d : Bool) → come a b c d ≤ 4
come_most true b c d = omega arith
come_most false true c d = omega arith
come_most false false true true = omega arith
come_most false false true false = omega arith
come_most false false false true = omega arith
come_most false false false false = omega arith

come_more : (s : ℕ) (a b c d x y z w : Bool) → come a b c d ≤ come (a || x) (b || y) (c || z) (d || w)
come_more s true b c d x y z w = omega arith
come_more s false b c d true y z w = come_most false b c d
come_more s false true c d false y z w = omega arith
come_more s false false c d false true z w = omega (arith, few c, few d)
  where
    few : (b : Bool) → one_if b ≤ 1
    few true = omega arith
    few false = omega arith
come_more s false false true true false false z w = omega arith
come_more s false false true false false false z true = omega arith
come_more s false false true false false false z false = omega arith
come_more s false false false true false false true w = omega arith
come_more s false false false true false false false w = omega arith
come_more s false false false false false false z w = omega arith

come_further : (s : ℕ) (a b c d x y z w : Bool) → (state_by s a b c d ≡ state_by s (a || x) (b || y) (c || z) (d || w) → ⊥) → come a b c d + 1 ≤ come (a || x) (b || y) (c || z) (d || w)
come_further s true b c d x y z w other = absurd (other refl)
come_further s false true c d true y z w other = omega arith
come_further s false false true true true y z w other = omega arith
come_further s false false true false true y z w other = omega arith
come_further s false false false true true y z w other = omega arith
come_further s false false false false true y z w other = omega arith
come_further s false true c d false y z w other = absurd (other refl)
come_further s false false true true false true z w other = omega arith
come_further s false false true false false true z w other = omega arith
come_further s false false false true false true z w other = omega arith
come_further s false false false false false true z w other = omega arith
come_further s false false true true false false z w other = absurd (other refl)
come_further s false false true false false false z true other = omega arith
come_further s false false true false false false z false other = absurd (other refl)
come_further s false false false true false false true w other = omega arith
come_further s false false false true false false false w other = absurd (other refl)
come_further s false false false false false false true true other = omega arith
come_further s false false false false false false true false other = omega arith
come_further s false false false false false false false true other = omega arith
come_further s false false false false false false false false other = absurd (other refl)

-- by all that was told
abbrev pub far : ℕ → List Telling → ℕ
far s ts = come (was_live (s + 1) ts) (was_live (s + 2) ts) (was_absent s (s + 1) ts) (was_absent s (s + 2) ts)

-- what counts of the two epochs with one more
pub record More (s : ℕ) (ts : List Telling) (t : Telling) : Type 0 where
  pub x : Bool
  pub y : Bool
  pub z : Bool
  pub w : Bool
  pub first : was_live (s + 1) (ts ++ t ∷ []) ≡ (was_live (s + 1) ts || x)
  pub second : was_live (s + 2) (ts ++ t ∷ []) ≡ (was_live (s + 2) ts || y)
  pub first_absent : was_absent s (s + 1) (ts ++ t ∷ []) ≡ (was_absent s (s + 1) ts || z)
  pub second_absent : was_absent s (s + 2) (ts ++ t ∷ []) ≡ (was_absent s (s + 2) ts || w)

more_of : (s : ℕ) (ts : List Telling) (t : Telling) → More s ts t
more_of s ts t = record {
  x = t.live && t.epoch == s + 1;
  y = t.live && t.epoch == s + 2;
  z = not t.live && t.epoch == s + 1 && nat_lt (s + 1) (max (latest s ts) t.moment);
  w = not t.live && t.epoch == s + 2 && nat_lt (s + 2) (max (latest s ts) t.moment);
  first = was_live-more (s + 1) ts t;
  second = was_live-more (s + 2) ts t;
  first_absent = was_absent-more s (s + 1) ts t;
  second_absent = was_absent-more s (s + 2) ts t;
}

far-more : (s : ℕ) (ts : List Telling) (t : Telling) → far s ts ≤ far s (ts ++ t ∷ [])
far-more s ts t =
    let m = more_of s ts t in
    let le = come_more s (was_live (s + 1) ts) (was_live (s + 2) ts) (was_absent s (s + 1) ts) (was_absent s (s + 2) ts) m.x m.y m.z m.w in
    rw (m.first, m.second, m.first_absent, m.second_absent) le

far-further : (s : ℕ) (ts : List Telling) (t : Telling) → (watch_state s ts ≡ watch_state s (ts ++ t ∷ []) → ⊥) → far s ts + 1 ≤ far s (ts ++ t ∷ [])
far-further s ts t other =
    let m = more_of s ts t in
    let states : watch_state s (ts ++ t ∷ []) ≡ state_by s (was_live (s + 1) ts || m.x) (was_live (s + 2) ts || m.y) (was_absent s (s + 1) ts || m.z) (was_absent s (s + 2) ts || m.w) = rw (m.first, m.second, m.first_absent, m.second_absent) refl in
    let le = come_further s (was_live (s + 1) ts) (was_live (s + 2) ts) (was_absent s (s + 1) ts) (was_absent s (s + 2) ts) m.x m.y m.z m.w (λ same. other (same ∙ sym states)) in
    rw (m.first, m.second, m.first_absent, m.second_absent) le

pub kept_far : (s : ℕ) (ts : List Telling) → length (kept s ts) ≤ far s ts
kept_far s ts = along (λ l. length (kept s l) ≤ far s l) (omega arith) more ts
  where
    more : (l : List Telling) (t : Telling) → length (kept s l) ≤ far s l → length (kept s (l ++ t ∷ [])) ≤ far s (l ++ t ∷ [])
    more l t before = elim (cases_change s l t) [
      | inl same ↦ omega (arith, before, ap length (kept-same s l t same), far-more s l t)
      | inr other ↦ omega (arith, before, ap length (kept-more s l t other), length-append (kept s l) (at_its_moment s l t ∷ []), far-further s l t other)
    ]

pub kept_few : (s : ℕ) (ts : List Telling) → length (kept s ts) ≤ 4
kept_few s ts = omega (arith, kept_far s ts, come_most (was_live (s + 1) ts) (was_live (s + 2) ts) (was_absent s (s + 1) ts) (was_absent s (s + 2) ts))

-- before a change there is room for one more
pub kept_room : (s : ℕ) (ts : List Telling) (t : Telling) → (watch_state s ts ≡ watch_state s (ts ++ t ∷ []) → ⊥) → length (kept s ts) < 4
kept_room s ts t other = omega (arith, kept_few s (ts ++ t ∷ []), ap length (kept-more s ts t other), length-append (kept s ts) (at_its_moment s ts t ∷ []))

-- ---- what is kept stands for all

pub record Enough (s : ℕ) (ts : List Telling) : Type 0 where
  pub state : watch_state s (kept s ts) ≡ watch_state s ts
  pub again : kept s (kept s ts) ≡ kept s ts
  pub seen : latest s (kept s ts) ≤ latest s ts

enough_more : (s : ℕ) (ts : List Telling) (t : Telling) → Enough s ts → Enough s (ts ++ t ∷ [])
enough_more s ts t e = elim (cases_change s ts t) [
  | inl same ↦
      let is = kept-same s ts t same in
      record {
        state = ap (watch_state s) is ∙ e.state ∙ same;
        again = ap (kept s) is ∙ e.again ∙ sym is;
        seen = omega (arith, ap (latest s) is, e.seen, latest-push s ts t);
      }
  | inr other ↦
      let last = at_its_moment s ts t in
      let is = kept-more s ts t other in
      let moment : max (latest s (kept s ts)) last.moment ≡ max (latest s ts) t.moment = omega (arith, e.seen) in
      let states : watch_state s (kept s ts ++ last ∷ []) ≡ watch_state s (ts ++ t ∷ []) = state_more s (kept s ts) ts last t e.state refl refl moment in
      let more = kept-more s (kept s ts) last (λ same. other (sym e.state ∙ same ∙ states)) in
      let itself : at_its_moment s (kept s ts) last ≡ last = ap (λ (n : ℕ). at n) moment in
      record {
        state = ap (watch_state s) is ∙ states;
        again = ap (kept s) is ∙ more ∙ ap (λ (l : List Telling). l ++ at_its_moment s (kept s ts) last ∷ []) e.again ∙ ap (λ (x : Telling). kept s ts ++ x ∷ []) itself ∙ sym is;
        seen = omega (arith, ap (latest s) is, latest-push s (kept s ts) last, moment, latest-push s ts t);
      }
]
  where
    at : ℕ → Telling
    at n = record { epoch = t.epoch; live = t.live; moment = n }

pub kept_enough : (s : ℕ) (ts : List Telling) → Enough s ts
kept_enough s ts = along (Enough s) (record { state = refl; again = refl; seen = omega arith }) (enough_more s) ts

-- two that stand alike, keep the same and have seen the same moment go on alike
pub record Alike (s : ℕ) (us ts : List Telling) : Type 0 where
  pub state : watch_state s us ≡ watch_state s ts
  pub same : kept s us ≡ kept s ts

alike_more : (s : ℕ) (us ts : List Telling) (t : Telling) → Alike s us ts → max (latest s us) t.moment ≡ max (latest s ts) t.moment → Alike s (us ++ t ∷ []) (ts ++ t ∷ [])
alike_more s us ts t alike moment =
    let states : watch_state s (us ++ t ∷ []) ≡ watch_state s (ts ++ t ∷ []) = state_more s us ts t t alike.state refl refl moment in
    let change : changes s us t ≡ changes s ts t = ap (λ (x : WatchState). not (is_same x (watch_state s (us ++ t ∷ [])))) alike.state ∙ ap (λ (x : WatchState). not (is_same (watch_state s ts) x)) states in
    let place : at_its_moment s us t ≡ at_its_moment s ts t = ap (λ (n : ℕ). at n) moment in
    record {
      state = states;
      same = kept-push s us t
          ∙ ap (λ (l : List Telling). l ++ cond (changes s us t) (at_its_moment s us t ∷ []) []) alike.same
          ∙ ap (λ (b : Bool). kept s ts ++ cond b (at_its_moment s us t ∷ []) []) change
          ∙ ap (λ (x : Telling). kept s ts ++ cond (changes s ts t) (x ∷ []) []) place
          ∙ sym (kept-push s ts t);
    }
  where
    at : ℕ → Telling
    at n = record { epoch = t.epoch; live = t.live; moment = n }

alike_later : (s : ℕ) (us ts later : List Telling) → Alike s us ts → latest s us ≡ latest s ts → Alike s (us ++ later) (ts ++ later)
alike_later s us ts [] alike seen = subst (λ (l : List Telling). Alike s l (ts ++ [])) (sym (append-nil us)) (subst (λ (l : List Telling). Alike s us l) (sym (append-nil ts)) alike)
alike_later s us ts (t ∷ later) alike seen =
    let moment : max (latest s us) t.moment ≡ max (latest s ts) t.moment = ap (λ (n : ℕ). max n t.moment) seen in
    let all = alike_later s (us ++ t ∷ []) (ts ++ t ∷ []) later (alike_more s us ts t alike moment) (latest-push s us t ∙ moment ∙ sym (latest-push s ts t)) in
    subst (λ (l : List Telling). Alike s l (ts ++ t ∷ later)) (append_assoc us (t ∷ []) later) (subst (λ (l : List Telling). Alike s ((us ++ t ∷ []) ++ later) l) (append_assoc ts (t ∷ []) later) all)

pub kept_later : (s : ℕ) (ts later : List Telling) (t : Telling) → latest s ts ≤ t.moment → Alike s (kept s ts ++ t ∷ later) (ts ++ t ∷ later)
kept_later s ts later t late =
    let e = kept_enough s ts in
    let us = kept s ts in
    let moment : max (latest s us) t.moment ≡ max (latest s ts) t.moment = omega (arith, e.seen) in
    let first = alike_more s us ts t (record { state = e.state; same = e.again }) moment in
    let all = alike_later s (us ++ t ∷ []) (ts ++ t ∷ []) later first (latest-push s us t ∙ moment ∙ sym (latest-push s ts t)) in
    subst (λ (l : List Telling). Alike s l (ts ++ t ∷ later)) (append_assoc us (t ∷ []) later) (subst (λ (l : List Telling). Alike s ((us ++ t ∷ []) ++ later) l) (append_assoc ts (t ∷ []) later) all)
