-- Keys asked for by 32.
use Rattle.std.proofs.Common.{◌≡◌, ℕ, zero, suc, ◌+◌, ◌<◌, ◌≤◌, min, List, [], ◌∷◌, length, ◌++◌, take, drop, get_or, append_assoc, length-drop, true, false, Option, Some, None, Result, Ok, Err, refl, sym, ◌∙◌, ap, subst, arith}
use Rattle.std.specs.Prelude.{◌==◌, OnOk}
use Rattle.std.specs.List.{cons_option}
use Rattle.std.proofs.lemmas.Bool.{eqb-true}
use Rattle.std.proofs.lemmas.List.{at_drop_more}
use Rattle.edge_kit.specs.declared.bytes.PubKey.{PubKey}
use Rattle.node_calls.specs.declared.ask.Ask.TheVariants as ask
use Rattle.record_join.specs.Keys.{kept_of}
use Rattle.call_plans.specs.Plans.{Done}
use Rattle.call_plans.specs.Paths.{Carries, Comes}
use Rattle.call_plans.proofs.PathLemmas.{comes_none, comes_on, comes_run, comes_end}
use Rattle.duty_turns.specs.Standing.{Standing, indices_of, with_indices}
use Rattle.duty_turns.specs.Turns.{PartPlan, ask_plan, by_32, index_plan, on_standing, then_on, to_renew}
use Rattle.duty_turns.specs.TurnSteps.{Fits}
use Rattle.duty_asks.specs.Found.{with_index}
use Rattle.duty_asks.specs.Quiet.{Outside, Parts, QuietDoes, done_value, stop_value}
use Rattle.duty_asks.specs.declared.ask.Stop.{Stop}
use Rattle.duty_asks.proofs.QuietLemmas.{stopped_runs}

-- so far the keys but these were asked for
pub record Asking (P : Standing → Type 0) (plan : PartPlan) (a b : Outside) (left : List PubKey) : Type 0 where
  pub after : Standing
  pub held : P after
  pub room : ℕ
  pub enough : length left ≤ room
  pub comes : Comes Fits QuietDoes plan (index_plan (by_32 room left) after) a b

pub asking_none : (P : Standing → Type 0) (s : Standing) (a : Outside) (keys : List PubKey) → P s → Asking P (index_plan (by_32 (length keys) keys) s) a a keys
asking_none P s a keys h = record { after = s; held = h; room = length keys; enough = omega arith; comes = comes_none Fits QuietDoes (index_plan (by_32 (length keys) keys) s) a }

take_least : {X : Type 0} (n : ℕ) (xs : List X) → take (min (length xs) n) xs ≡ take n xs
take_least zero xs = let e : min (length xs) 0 ≡ 0 = omega arith in ap (λ k. take k xs) e
take_least {X} (suc n) [] = let e : min 0 (suc n) ≡ 0 = omega arith in let none : List X = [] in ap (λ k. take k none) e
take_least {X} (suc n) (x ∷ xs) =
    let e : min (length (x ∷ xs)) (suc n) ≡ suc (min (length xs) n) = omega arith in
    ap (λ k. take k (x ∷ xs)) e ∙ ap (λ (l : List X). x ∷ l) (take_least n xs)

drop_least : {X : Type 0} (n : ℕ) (xs : List X) → drop (min (length xs) n) xs ≡ drop n xs
drop_least zero xs = let e : min (length xs) 0 ≡ 0 = omega arith in ap (λ k. drop k xs) e
drop_least {X} (suc n) [] = let e : min 0 (suc n) ≡ 0 = omega arith in let none : List X = [] in ap (λ k. drop k none) e
drop_least {X} (suc n) (x ∷ xs) =
    let e : min (length (x ∷ xs)) (suc n) ≡ suc (min (length xs) n) = omega arith in
    ap (λ k. drop k (x ∷ xs)) e ∙ drop_least n xs

some_left : (left : List PubKey) → (length left == 0) ≡ false → 0 < length left
some_left [] h = absurd cc
some_left (k ∷ left) h = omega arith

record Next (room : ℕ) (left : List PubKey) : Type 0 where
  less : ℕ
  enough : length (drop 32 left) ≤ less
  is : by_32 room left ≡ take 32 left ∷ by_32 less (drop 32 left)

next_of : (room : ℕ) (left : List PubKey) → 0 < length left → length left ≤ room → Next room left
next_of room [] h l = absurd (omega (arith, h))
next_of zero (k ∷ keys) h l = absurd (omega (arith, h, l))
next_of (suc less) (k ∷ keys) h l = record { less = less; enough = omega (arith, l, length-drop {A = PubKey}); is = refl }

module _ (P Q : Standing → Type 0) (plan : PartPlan) (a b c : Outside) (left asked rest : List PubKey) where
  at_next : (w : Asking P plan a b left) (h : 0 < length left) → asked ≡ take (min (length left) 32) left
      → Comes Fits QuietDoes plan (then_on (ask_plan (ask.Validators asked) with_indices (to_renew w.after) w.after) (index_plan (by_32 (next_of w.room left h w.enough).less (drop 32 left)))) a b
  at_next w h is =
      let n = next_of w.room left h w.enough in
      let same : take 32 left ≡ asked = sym (take_least 32 left) ∙ sym is in
      subst (λ (l : List PubKey). Comes Fits QuietDoes plan (index_plan (l ∷ by_32 n.less (drop 32 left)) w.after) a b) same
      (subst (λ (l : List (List PubKey)). Comes Fits QuietDoes plan (index_plan l w.after) a b) n.is w.comes)

  pub asking_next : (result : Result (Unit {0}) Stop) → result ≡ Ok tt → (length left == 0) ≡ false → asked ≡ take (min (length left) 32) left → rest ≡ drop (min (length left) 32) left → (w : Asking P plan a b left)
      → Parts Q (ask_plan (ask.Validators asked) with_indices (to_renew w.after) w.after) b c result → Asking Q plan a c rest
  asking_next result e some is other w part =
      let h = some_left left some in
      let n = next_of w.room left h w.enough in
      let same : drop 32 left ≡ rest = sym (drop_least 32 left) ∙ sym other in
      let run = subst (λ (r : Result (Unit {0}) Stop). Carries Fits QuietDoes (ask_plan (ask.Validators asked) with_indices (to_renew w.after) w.after) b c (done_value part.after r)) e part.runs in
      subst (λ (l : List PubKey). Asking Q plan a c l) same (record {
        after = part.after;
        held = subst (λ (r : Result (Unit {0}) Stop). OnOk r (Q part.after)) e part.held;
        room = n.less;
        enough = n.enough;
        comes = comes_on Fits QuietDoes a b c plan (ask_plan (ask.Validators asked) with_indices (to_renew w.after) w.after) (on_standing (index_plan (by_32 n.less (drop 32 left)))) (Some part.after) (at_next w h is) run;
      })

  pub asking_stop : (why : Stop) (result : Result (Unit {0}) Stop) → result ≡ Err why → (length left == 0) ≡ false → asked ≡ take (min (length left) 32) left → (w : Asking P plan a b left)
      → Parts Q (ask_plan (ask.Validators asked) with_indices (to_renew w.after) w.after) b c result → Parts Q plan a c (Err why)
  asking_stop why result e some is w part =
      let h = some_left left some in
      let n = next_of w.room left h w.enough in
      let p : PartPlan = ask_plan (ask.Validators asked) with_indices (to_renew w.after) w.after in
      let next : Standing → PartPlan = index_plan (by_32 n.less (drop 32 left)) in
      let run = subst (λ (r : Result (Unit {0}) Stop). Carries Fits QuietDoes p b c (done_value part.after r)) e part.runs in
      record { after = part.after; held = tt; runs = comes_run Fits QuietDoes a b c plan (then_on p next) (stop_value why) (at_next w h is) (stopped_runs p next b c why run) }

none_left : (room : ℕ) → by_32 room [] ≡ []
none_left zero = refl
none_left (suc room) = refl

empty_left : (left : List PubKey) → (length left == 0) ≡ true → left ≡ []
empty_left [] h = refl
empty_left (k ∷ left) h = let zero_long = eqb-true (length (k ∷ left)) 0 h in absurd (omega (arith, zero_long))

pub asking_done : (P : Standing → Type 0) (plan : PartPlan) (a b : Outside) (left : List PubKey) → (length left == 0) ≡ true → (w : Asking P plan a b left) → Parts P plan a b (Ok tt)
asking_done P plan a b left h w =
    let none : by_32 w.room left ≡ [] = ap (λ (l : List PubKey). by_32 w.room l) (empty_left left h) ∙ none_left w.room in
    record {
      after = w.after;
      held = w.held;
      runs = comes_end Fits QuietDoes a b plan (Done (Some w.after)) (Some (Some w.after)) (subst (λ (l : List (List PubKey)). Comes Fits QuietDoes plan (index_plan l w.after) a b) none w.comes) refl;
    }

-- ---- indices that were found

found_on : (old : List ℕ) (o : Option ℕ) (rest : List ℕ) → with_index old o ++ rest ≡ old ++ cons_option o rest
found_on old None rest = refl
found_on old (Some x) rest = append_assoc old (x ∷ []) rest

pub index_step : (entries : List (PubKey × ℕ)) (keys : List PubKey) (i : ℕ) (d : PubKey) (old new : List ℕ) (o : Option ℕ) (all : List ℕ) → i < length keys → o ≡ kept_of entries (get_or keys i d) → new ≡ with_index old o
    → old ++ indices_of entries (drop i keys) ≡ all → new ++ indices_of entries (drop (i + 1) keys) ≡ all
index_step entries keys i d old new o all h e is inv =
    let rest : List ℕ = indices_of entries (drop (i + 1) keys) in
    let next : drop i keys ≡ get_or keys i d ∷ drop (i + 1) keys = at_drop_more (λ l. l) keys i d h in
    let split : indices_of entries (drop i keys) ≡ cons_option o rest = ap (λ (l : List PubKey). indices_of entries l) next ∙ ap (λ (x : Option ℕ). cons_option x rest) (sym e) in
    ap (λ (l : List ℕ). l ++ rest) is ∙ found_on old o rest ∙ ap (λ (l : List ℕ). old ++ l) (sym split) ∙ inv
