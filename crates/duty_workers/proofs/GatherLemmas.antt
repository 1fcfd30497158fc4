-- What lanes say of the ends of tasks, put together one by one.
use Rattle.std.proofs.Common.{◌≡◌, ℕ, zero, suc, ◌+◌, ◌/◌, ◌%◌, ◌<◌, Bool, true, false, List, [], ◌∷◌, ◌++◌, length, Option, Some, None, refl, sym, ◌∙◌, ap, append_assoc, subst, arith, length-append}
use Rattle.std.specs.Prelude.{◌==◌, is_some, slice_get}
use Rattle.std.specs.List.{list_all}
use Rattle.std.specs.Option.{option_map}
use Rattle.std.proofs.lemmas.Bool.{and_parts, eqb-true}
use Rattle.std.proofs.lemmas.List.{append-nil, length_push}
use Rattle.duty_plans.specs.declared.ended.Ended.{Ended}
use Rattle.duty_plans.specs.declared.task.Task.{Task}
use Rattle.duty_turns.specs.Lanes.{dealt}
use Rattle.duty_workers.specs.declared.lane.Lane.{Lane}
use Rattle.duty_workers.specs.Shares.{AreGathered, HaveShares, kept, lane_ends, end_at}
use Rattle.duty_workers.proofs.DealLemmas.{dealt_push, dealt_count, dealt_same}

-- the ends that a lane says begin with these
pub record Begins (results : Option (List Ended)) (share : List Ended) : Type 0 where
  pub rest : List Ended
  pub is : results ≡ Some (share ++ rest)

-- so those of each lane, with its share of what was put together
abbrev pub AllBegin : {K S N : Type 0} → ℕ → List (Lane K S N) → List Ended → Type 0
AllBegin {K} {S} {N} place lanes got = (k : ℕ) (lane : Lane K S N) → slice_get lanes k ≡ Some lane → Begins (lane_ends lane) (dealt (length lanes) k place got)

-- ---- nothing yet

passed : {X : Type 0} (t : X → Bool) (xs : List X) (k : ℕ) (x : X) → list_all t xs ≡ true → slice_get xs k ≡ Some x → t x ≡ true
passed t [] k x h e = absurd cc
passed t (y ∷ ys) zero x h e = (let same : y ≡ x = cc in subst (λ z. t z ≡ true) same (and_parts (t y) (list_all t ys) h).0)
passed t (y ∷ ys) (suc k) x h e = passed t ys k x (and_parts (t y) (list_all t ys) h).1 e

begins : {V : Type 0} (items : V → List Ended) (o : Option V) → is_some o ≡ true → Begins (option_map items o) []
begins items None h = absurd cc
begins items (Some v) h = record { rest = items v; is = refl }

pub begin_none : {K S N : Type 0} (place : ℕ) (lanes : List (Lane K S N)) (got : List Ended) → list_all (λ lane. is_some lane.ends) lanes ≡ true → got ≡ [] → AllBegin place lanes got
begin_none {K} {S} {N} place lanes got h e k lane at =
    let some : is_some lane.ends ≡ true = passed (λ (l : Lane K S N). is_some l.ends) lanes k lane h at in
    subst (λ (l : List Ended). Begins (lane_ends lane) (dealt (length lanes) k place l)) (sym e) (begins (λ v. v.items) lane.ends some)

-- ---- one more

seam : {X : Type 0} (xs ys : List X) → slice_get (xs ++ ys) (length xs) ≡ slice_get ys 0
seam [] ys = refl
seam (x ∷ xs) ys = seam xs ys

begins_rest : (results : Option (List Ended)) (share rest : List Ended) (r : Ended) → results ≡ Some (share ++ rest) → slice_get rest 0 ≡ Some r → Begins results (share ++ r ∷ [])
begins_rest results share [] r e h = absurd cc
begins_rest results share (x ∷ rest) r e h =
    let same : x ≡ r = cc in
    record { rest = rest; is = e ∙ ap (λ (y : Ended). Some (share ++ y ∷ rest)) same ∙ ap (λ (l : List Ended). Some l) (sym (append_assoc share (r ∷ []) rest)) }

begins_kept : (b : Bool) (results : Option (List Ended)) (share : List Ended) (r : Ended) → Begins results share → (b ≡ true → end_at results (length share) ≡ Some r) → Begins results (kept b share r)
begins_kept false results share r s f = s
begins_kept true results share r s f =
    let there : slice_get (share ++ s.rest) (length share) ≡ Some r = subst (λ (o : Option (List Ended)). end_at o (length share) ≡ Some r) s.is (f refl) in
    begins_rest results share s.rest r s.is (sym (seam share s.rest) ∙ there)

pub begin_more : {K S N : Type 0} (place : ℕ) (lanes : List (Lane K S N)) (got now : List Ended) (at i : ℕ) (lane : Lane K S N) (r : Ended)
    → 0 < length lanes → at ≡ (place + i) % length lanes → length got ≡ i → slice_get lanes at ≡ Some lane → Some r ≡ end_at (lane_ends lane) (i / length lanes) → now ≡ got ++ r ∷ []
    → AllBegin place lanes got → AllBegin place lanes now
begin_more {K} {S} {N} place lanes got now at i lane r some turn counted here found pushed so k other h =
    let c : ℕ = length lanes in
    let is_next : Bool = (place + length got) % c == k in
    let share : List Ended = dealt c k place got in
    let next = λ (is : is_next ≡ true).
    (let to : (place + length got) % c ≡ k = eqb-true ((place + length got) % c) k is in
    let there : k ≡ at = sym to ∙ ap (λ n. (place + n) % c) counted ∙ sym turn in
    let same : lane ≡ other = cc in
    let count : length share ≡ i / c = dealt_count c k place got some (sym to) ∙ ap (λ n. n / c) counted in
    ap (λ n. end_at (lane_ends other) n) count ∙ ap (λ (l : Lane K S N). end_at (lane_ends l) (i / c)) (sym same) ∙ sym found) in
    let begun : Begins (lane_ends other) (kept is_next share r) = begins_kept is_next (lane_ends other) share r (so k other h) next in
    subst (λ (l : List Ended). Begins (lane_ends other) l) (sym (ap (λ (l : List Ended). dealt c k place l) pushed ∙ dealt_push c k place got r)) begun

pub count_more : (got now : List Ended) (r : Ended) (i : ℕ) → now ≡ got ++ r ∷ [] → length got ≡ i → length now ≡ i + 1
count_more got now r i pushed counted = ap (λ (l : List Ended). length l) pushed ∙ length_push got r ∙ ap (λ n. n + 1) counted

-- ---- all

nothing : {X : Type 0} (xs : List X) → length xs ≡ 0 → xs ≡ []
nothing [] h = refl
nothing (x ∷ xs) h = absurd (omega arith)

pub begin_all : {K S N : Type 0} (place : ℕ) (ds : List Task) (lanes : List (Lane K S N)) (got : List Ended) → HaveShares place ds lanes → length got ≡ length ds → AllBegin place lanes got → AreGathered place ds lanes got
begin_all {K} {S} {N} place ds lanes got shares each so = record {
  each = each;
  shares = λ (k : ℕ) (lane : Lane K S N) (at : slice_get lanes k ≡ Some lane).
      (let c : ℕ = length lanes in
      let s : Begins (lane_ends lane) (dealt c k place got) = so k lane at in
      let whole : length (dealt c k place got ++ s.rest) ≡ length (dealt c k place ds) = shares k lane (dealt c k place got ++ s.rest) at s.is in
      let alike : length (dealt c k place got) ≡ length (dealt c k place ds) = dealt_same c k place got ds each in
      let none : s.rest ≡ [] = nothing s.rest (omega (arith, whole, alike, length-append (dealt c k place got) s.rest)) in
      s.is ∙ ap (λ (l : List Ended). Some (dealt c k place got ++ l)) none ∙ ap (λ (l : List Ended). Some l) (append-nil (dealt c k place got)));
}
