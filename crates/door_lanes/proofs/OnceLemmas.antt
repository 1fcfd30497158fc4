-- What all lanes took together is what the door gave, each once; and what they handed back is what they served, each once.
use Rattle.std.proofs.Common.{◌≡◌, ◌⊎◌, ◌+◌, ◌<◌, ◌≤◌, ◌==◌, ℕ, zero, suc, Bool, true, false, cond, List, [], ◌∷◌, ◌++◌, Option, Some, length, slice_get, refl, sym, ap, ◌∙◌, subst, append_assoc, inl, inr, ⊎_elim, eq-eqb, ne_eqb, arith}
use Rattle.std.specs.List.Sorted.{IsPermutation}
use Rattle.std.proofs.lemmas.List.Sorted.{IsPermutation-append_comm, IsPermutation-append_left, IsPermutation-append_right, IsPermutation-refl, IsPermutation-trans}
use Rattle.desk_lock.specs.Histories.{own}
use Rattle.door_lanes.specs.Doors.{Asked, Turn, answers, asks, calls, connection_in, connections_in, replies, returned, returned_in}
use Rattle.door_lanes.specs.Lanes.{Visit, accepted_in, finished_in}
use Rattle.door_lanes.specs.Runs.{all_accepted, all_finished}

here_or_later : (i b : ℕ) → i ≤ b → (i ≡ b) ⊎ (i < b)
here_or_later zero zero le = inl refl
here_or_later zero (suc b) le = inr (omega arith)
here_or_later (suc i) zero le = absurd (omega (arith, le))
here_or_later (suc i) (suc b) le = ⊎_elim (λ e. inl (ap suc e)) (λ lt. inr (omega (arith, lt))) (here_or_later i b (omega (arith, le)))

pub below_or_not : (a b : ℕ) → (a < b) ⊎ (b ≤ a)
below_or_not zero zero = inr (omega arith)
below_or_not zero (suc b) = inl (omega arith)
below_or_not (suc a) zero = inr (omega arith)
below_or_not (suc a) (suc b) = ⊎_elim (λ lt. inl (omega (arith, lt))) (λ le. inr (omega (arith, le))) (below_or_not a b)

module _ {X : Type 0} where
  -- the lists of i, of i + 1 and so on, n of them, as one
  abbrev gathered : (ℕ → List X) → ℕ → ℕ → List X
  gathered w i zero = []
  gathered w i (suc n) = w i ++ gathered w (suc i) n

  none_gathered : (i n : ℕ) → gathered (λ k. []) i n ≡ []
  none_gathered i zero = refl
  none_gathered i (suc n) = none_gathered (suc i) n

  same_gathered : (v w : ℕ → List X) → ((k : ℕ) → v k ≡ w k) → (i n : ℕ) → gathered v i n ≡ gathered w i n
  same_gathered v w h i zero = refl
  same_gathered v w h i (suc n) = ap (λ (l : List X). l ++ gathered v (suc i) n) (h i) ∙ ap (λ (l : List X). w i ++ l) (same_gathered v w h (suc i) n)

  to_front : (xs ys zs : List X) → IsPermutation (xs ++ (ys ++ zs)) (ys ++ (xs ++ zs))
  to_front xs ys zs =
      let p : IsPermutation ((xs ++ ys) ++ zs) ((ys ++ xs) ++ zs) = IsPermutation-append_left zs (xs ++ ys) (ys ++ xs) (IsPermutation-append_comm xs ys) in
      let q : IsPermutation ((xs ++ ys) ++ zs) (ys ++ (xs ++ zs)) = subst (λ (l : List X). IsPermutation ((xs ++ ys) ++ zs) l) (append_assoc ys xs zs) p in
      subst (λ (l : List X). IsPermutation l (ys ++ (xs ++ zs))) (append_assoc xs ys zs) q

  -- some elements more in front of the list of b, which is not among them
  none_more : (xs : List X) (b : ℕ) (v : ℕ → List X) (i n : ℕ) → b < i → gathered (λ k. cond (b == k) (xs ++ v k) (v k)) i n ≡ gathered v i n
  none_more xs b v i zero lt = refl
  none_more xs b v i (suc n) lt =
      let w : ℕ → List X = λ k. cond (b == k) (xs ++ v k) (v k) in
      let z : w i ≡ v i = ap (λ (t : Bool). cond t (xs ++ v i) (v i)) (ne_eqb b i (λ e. absurd (omega (arith, lt, e)))) in
      ap (λ (l : List X). l ++ gathered w (suc i) n) z ∙ ap (λ (l : List X). v i ++ l) (none_more xs b v (suc i) n (omega (arith, lt)))

  -- some elements more in front of the list of b, which is among them
  once_more : (xs : List X) (b : ℕ) (v : ℕ → List X) (i n : ℕ) → i ≤ b → b < i + n → IsPermutation (xs ++ gathered v i n) (gathered (λ k. cond (b == k) (xs ++ v k) (v k)) i n)
  once_more xs b v i zero le lt = absurd (omega (arith, le, lt))
  once_more xs b v i (suc n) le lt =
      let w : ℕ → List X = λ k. cond (b == k) (xs ++ v k) (v k) in
      let rest : List X = gathered v (suc i) n in
      let more : List X = gathered w (suc i) n in
      ⊎_elim
      (λ e.
      let z : w i ≡ xs ++ v i = ap (λ (t : Bool). cond t (xs ++ v i) (v i)) (eq-eqb b i (sym e)) in
      let r : more ≡ rest = none_more xs b v (suc i) n (omega (arith, e)) in
      let same : xs ++ (v i ++ rest) ≡ w i ++ more = sym (append_assoc xs (v i) rest) ∙ ap (λ (l : List X). l ++ rest) (sym z) ∙ ap (λ (l : List X). w i ++ l) (sym r) in
      subst (λ (l : List X). IsPermutation (xs ++ (v i ++ rest)) l) same (IsPermutation-refl (xs ++ (v i ++ rest))))
      (λ later.
      let z : w i ≡ v i = ap (λ (t : Bool). cond t (xs ++ v i) (v i)) (ne_eqb b i (λ e. absurd (omega (arith, later, e)))) in
      let r : IsPermutation (xs ++ rest) more = once_more xs b v (suc i) n (omega (arith, later)) (omega (arith, lt)) in
      let s : IsPermutation (v i ++ (xs ++ rest)) (v i ++ more) = IsPermutation-append_right (v i) (xs ++ rest) more r in
      let t : IsPermutation (xs ++ (v i ++ rest)) (v i ++ more) = IsPermutation-trans (xs ++ (v i ++ rest)) (v i ++ (xs ++ rest)) (v i ++ more) (to_front xs (v i) rest) s in
      subst (λ (l : List X). IsPermutation (xs ++ (v i ++ rest)) (l ++ more)) (sym z) t)
      (here_or_later i b le)

cond_nil : {X : Type 0} (b : Bool) (x : X) (ys : List X) → cond b (x ∷ ys) ys ≡ [] → ys ≡ []
cond_nil true x ys e = absurd (cc e)
cond_nil false x ys e = e

own_nil : {C : Type 0} (k : ℕ) (e : Turn C) (es : List (Turn C)) → own k (e ∷ es) ≡ [] → own k es ≡ []
own_nil k e es h = cond_nil (e.by == k) (e.call, e.reply) (own k es) h

own_some : {C : Type 0} (e : Turn C) (es : List (Turn C)) → own e.by (e ∷ es) ≡ [] → ⊥
own_some e es h =
    let one : cond (e.by == e.by) ((e.call, e.reply) ∷ own e.by es) (own e.by es) ≡ (e.call, e.reply) ∷ own e.by es =
    ap (λ (t : Bool). cond t ((e.call, e.reply) ∷ own e.by es) (own e.by es)) (eq-eqb e.by e.by refl) in
    let none : (e.call, e.reply) ∷ own e.by es ≡ [] = sym one ∙ h in
    absurd (cc none)

-- what each call with its answer has of something
module _ {X C : Type 0} (of : Asked C → List X) where
  -- all that a pass's own calls have of it, and all that all turns have
  abbrev in_own : List (Asked C) → List X
  in_own [] = []
  in_own (x ∷ xs) = of x ++ in_own xs

  abbrev in_log : List (Turn C) → List X
  in_log [] = []
  in_log (e ∷ es) = of (e.call, e.reply) ++ in_log es

  own_cond : (b : Bool) (x : Asked C) (ys : List (Asked C)) → in_own (cond b (x ∷ ys) ys) ≡ cond b (of x ++ in_own ys) (in_own ys)
  own_cond true x ys = refl
  own_cond false x ys = refl

  -- what each of n passes has, pass by pass
  by_pass : (log : List (Turn C)) (n : ℕ) → ((k : ℕ) → n ≤ k → own k log ≡ []) → IsPermutation (in_log log) (gathered (λ k. in_own (own k log)) 0 n)
  by_pass [] n none = subst (λ (l : List X). IsPermutation [] l) (sym (none_gathered 0 n)) (IsPermutation-refl [])
  by_pass (e ∷ es) n none =
      let xs : List X = of (e.call, e.reply) in
      let v : ℕ → List X = λ k. in_own (own k es) in
      let lt : e.by < n = ⊎_elim (λ lt. lt) (λ le. absurd (own_some e es (none e.by le))) (below_or_not e.by n) in
      let o : IsPermutation (xs ++ gathered v 0 n) (gathered (λ k. cond (e.by == k) (xs ++ v k) (v k)) 0 n) = once_more xs e.by v 0 n (omega arith) (omega (arith, lt)) in
      let r : IsPermutation (in_log es) (gathered v 0 n) = by_pass es n (λ k le. own_nil k e es (none k le)) in
      let p : IsPermutation (xs ++ in_log es) (xs ++ gathered v 0 n) = IsPermutation-append_right xs (in_log es) (gathered v 0 n) r in
      let q : IsPermutation (xs ++ in_log es) (gathered (λ k. cond (e.by == k) (xs ++ v k) (v k)) 0 n) =
      IsPermutation-trans (xs ++ in_log es) (xs ++ gathered v 0 n) (gathered (λ k. cond (e.by == k) (xs ++ v k) (v k)) 0 n) p o in
      let same : gathered (λ k. cond (e.by == k) (xs ++ v k) (v k)) 0 n ≡ gathered (λ k. in_own (own k (e ∷ es))) 0 n =
      same_gathered (λ k. cond (e.by == k) (xs ++ v k) (v k)) (λ k. in_own (own k (e ∷ es))) (λ k. sym (own_cond (e.by == k) (e.call, e.reply) (own k es))) 0 n in
      subst (λ (l : List X). IsPermutation (xs ++ in_log es) l) same q

module _ {C : Type 0} where
  abbrev given_of : Asked C → List C
  given_of x = connection_in x.1

  abbrev back_of : Asked C → List C
  back_of x = returned x.0

  given_own : (xs : List (Asked C)) → in_own given_of xs ≡ connections_in (answers xs)
  given_own [] = refl
  given_own (x ∷ xs) = ap (λ (l : List C). connection_in x.1 ++ l) (given_own xs)

  given_log : (log : List (Turn C)) → in_log given_of log ≡ connections_in (replies log)
  given_log [] = refl
  given_log (e ∷ es) = ap (λ (l : List C). connection_in e.reply ++ l) (given_log es)

  back_own : (xs : List (Asked C)) → in_own back_of xs ≡ returned_in (calls xs)
  back_own [] = refl
  back_own (x ∷ xs) = ap (λ (l : List C). returned x.0 ++ l) (back_own xs)

  back_log : (log : List (Turn C)) → in_log back_of log ≡ returned_in (asks log)
  back_log [] = refl
  back_log (e ∷ es) = ap (λ (l : List C). returned e.call ++ l) (back_log es)

  visits_gathered : (w : ℕ → List C) (i : ℕ) (visits : List (List (Visit C))) → ((k : ℕ) (vs : List (Visit C)) → slice_get visits k ≡ Some vs → accepted_in vs ≡ w (i + k)) → all_accepted visits ≡ gathered w i (length visits)
  visits_gathered w i [] f = refl
  visits_gathered w i (vs ∷ vss) f =
      let at : i + 0 ≡ i = omega arith in
      let e : accepted_in vs ≡ w i = f 0 vs refl ∙ ap (λ (n : ℕ). w n) at in
      let r : all_accepted vss ≡ gathered w (suc i) (length vss) = visits_gathered w (suc i) vss (λ k us is. let s : i + suc k ≡ suc i + k = omega arith in f (suc k) us is ∙ ap (λ (n : ℕ). w n) s) in
      ap (λ (l : List C). l ++ all_accepted vss) e ∙ ap (λ (l : List C). w i ++ l) r

  -- each connection that the door gave was taken by one lane, once, and no other was
  pub each_once : (log : List (Turn C)) (visits : List (List (Visit C))) → ((k : ℕ) (vs : List (Visit C)) → slice_get visits k ≡ Some vs → connections_in (answers (own k log)) ≡ accepted_in vs)
      → ((k : ℕ) → length visits ≤ k → own k log ≡ []) → IsPermutation (connections_in (replies log)) (all_accepted visits)
  each_once log visits f none =
      let w : ℕ → List C = λ k. in_own given_of (own k log) in
      let same : all_accepted visits ≡ gathered w 0 (length visits) =
      visits_gathered w 0 visits (λ k vs is. let s : k ≡ 0 + k = omega arith in sym (f k vs is) ∙ sym (given_own (own k log)) ∙ ap (λ (n : ℕ). w n) s) in
      subst (λ (l : List C). IsPermutation l (all_accepted visits)) (given_log log) (subst (λ (l : List C). IsPermutation (in_log given_of log) l) (sym same) (by_pass given_of log (length visits) none))

  -- the second list of each goes after the first of it
  between : (a g o r : List C) → IsPermutation ((a ++ g) ++ (o ++ r)) ((a ++ o) ++ (g ++ r))
  between a g o r =
      let p : IsPermutation (a ++ (g ++ (o ++ r))) (a ++ (o ++ (g ++ r))) = IsPermutation-append_right a (g ++ (o ++ r)) (o ++ (g ++ r)) (to_front g o r) in
      let q : IsPermutation ((a ++ g) ++ (o ++ r)) (a ++ (o ++ (g ++ r))) = subst (λ (l : List C). IsPermutation l (a ++ (o ++ (g ++ r)))) (sym (append_assoc a g (o ++ r))) p in
      subst (λ (l : List C). IsPermutation ((a ++ g) ++ (o ++ r)) l) (sym (append_assoc a o (g ++ r))) q

  -- what each lane handed back, and then what each kept, is what they served
  kept_gathered : (w : ℕ → List C) (i : ℕ) (kept : List (Option C)) (visits : List (List (Visit C))) → length kept ≡ length visits
      → ((k : ℕ) (vs : List (Visit C)) (o : Option C) → slice_get visits k ≡ Some vs → slice_get kept k ≡ Some o → w (i + k) ++ returned o ≡ finished_in vs) → IsPermutation (gathered w i (length visits) ++ returned_in kept) (all_finished visits)
  kept_gathered w i [] [] long f = IsPermutation-refl []
  kept_gathered w i [] (vs ∷ vss) long f = absurd (omega (arith, long))
  kept_gathered w i (o ∷ os) [] long f = absurd (omega (arith, long))
  kept_gathered w i (o ∷ os) (vs ∷ vss) long f =
      let at : i ≡ i + 0 = omega arith in
      let one : w i ++ returned o ≡ finished_in vs = ap (λ (n : ℕ). w n ++ returned o) at ∙ f 0 vs o refl refl in
      let rest : IsPermutation (gathered w (suc i) (length vss) ++ returned_in os) (all_finished vss) =
      kept_gathered w (suc i) os vss (omega (arith, long)) (λ k us p a b. let s : suc i + k ≡ i + suc k = omega arith in ap (λ (n : ℕ). w n ++ returned p) s ∙ f (suc k) us p a b) in
      let g : List C = gathered w (suc i) (length vss) in
      let r : List C = returned_in os in
      let whole : IsPermutation ((w i ++ returned o) ++ (g ++ r)) ((w i ++ returned o) ++ all_finished vss) = IsPermutation-append_right (w i ++ returned o) (g ++ r) (all_finished vss) rest in
      let all : IsPermutation ((w i ++ g) ++ (returned o ++ r)) ((w i ++ returned o) ++ all_finished vss) =
      IsPermutation-trans ((w i ++ g) ++ (returned o ++ r)) ((w i ++ returned o) ++ (g ++ r)) ((w i ++ returned o) ++ all_finished vss) (between (w i) g (returned o) r) whole in
      subst (λ (l : List C). IsPermutation ((w i ++ g) ++ (returned o ++ r)) (l ++ all_finished vss)) one all

  -- each connection that a lane served was handed back once, by a turn or in the end, and no other was
  pub each_back : (log : List (Turn C)) (kept : List (Option C)) (visits : List (List (Visit C))) → length kept ≡ length visits
      → ((k : ℕ) (vs : List (Visit C)) (o : Option C) → slice_get visits k ≡ Some vs → slice_get kept k ≡ Some o → returned_in (calls (own k log)) ++ returned o ≡ finished_in vs) → ((k : ℕ) → length visits ≤ k → own k log ≡ [])
      → IsPermutation (returned_in (asks log) ++ returned_in kept) (all_finished visits)
  each_back log kept visits long f none =
      let w : ℕ → List C = λ k. in_own back_of (own k log) in
      let n : ℕ = length visits in
      let last : IsPermutation (gathered w 0 n ++ returned_in kept) (all_finished visits) =
      kept_gathered w 0 kept visits long (λ k vs o a b. let s : 0 + k ≡ k = omega arith in ap (λ (m : ℕ). w m ++ returned o) s ∙ ap (λ (l : List C). l ++ returned o) (back_own (own k log)) ∙ f k vs o a b) in
      let turns : IsPermutation (returned_in (asks log)) (gathered w 0 n) = subst (λ (l : List C). IsPermutation l (gathered w 0 n)) (back_log log) (by_pass back_of log n none) in
      IsPermutation-trans (returned_in (asks log) ++ returned_in kept) (gathered w 0 n ++ returned_in kept) (all_finished visits) (IsPermutation-append_left (returned_in kept) (returned_in (asks log)) (gathered w 0 n) turns) last
