-- The nodes of lanes asked whether they are syncing, lane by lane.
use Rattle.std.proofs.Common.{◌≡◌, ℕ, ◌+◌, ◌<◌, ◌≤◌, Bool, true, false, List, [], ◌∷◌, ◌++◌, All, map, length, get_or, Result, refl, sym, ◌∙◌, ap, subst, arith}
use Rattle.std.proofs.Math.ListN.{set, get_or-map}
use Rattle.std.proofs.lemmas.List.{length-map, length_push, map-set}
use Rattle.std.proofs.lemmas.List.Elements.{All-get_or, All-set}
use Rattle.node_calls.specs.declared.answer.Answer.{Answer}
use Rattle.node_calls.specs.declared.answer.NodeFault.{NodeFault}
use Rattle.duty_plans.specs.Seats.{Seat}
use Rattle.duty_turns.specs.Lanes.{AreRefreshed, IsRefreshed}
use Rattle.duty_workers.specs.Shares.{IsRefreshedIn}
use Rattle.duty_workers.specs.declared.lane.Lane.{Lane}
use Rattle.duty_workers.specs.Working.{IsReady, WereRefreshed}

-- those of the first lanes were asked, all of them; the other lanes were not touched
abbrev pub AreFirst : {K : Type 0} → List (Seat K) → List (List (Result Answer NodeFault)) → List (Seat K) → Type 0
AreFirst old [] new = new ≡ old
AreFirst (o ∷ old) (replies ∷ others) (n ∷ new) = IsRefreshed true o replies n × AreFirst old others new
AreFirst _ _ _ = ⊥

-- those of the next lane too
first_push : {K : Type 0} (old new : List (Seat K)) (rs : List (List (Result Answer NodeFault))) (replies : List (Result Answer NodeFault)) (d s : Seat K)
    → length rs < length new → AreFirst old rs new → IsRefreshed true (get_or new (length rs) d) replies s → AreFirst old (rs ++ replies ∷ []) (set new (length rs) s)
first_push [] [] [] r d s h f q = absurd (omega arith)
first_push [] (n ∷ new) [] r d s h f q = absurd cc
first_push (o ∷ old) [] [] r d s h f q = absurd (omega arith)
first_push {K} (o ∷ old) (n ∷ new) [] r d s h f q =
    let same : n ≡ o = cc in
    let rest : new ≡ old = cc in
    (subst (λ (x : Seat K). IsRefreshed true x r s) same q, rest)
first_push [] new (x ∷ rs) r d s h f q = absurd f
first_push (o ∷ old) [] (x ∷ rs) r d s h f q = absurd f
first_push (o ∷ old) (n ∷ new) (x ∷ rs) r d s h f q =
    let below : length rs < length new = omega arith in
    (f.0, first_push old new rs r d s below f.1 q)

-- memory ran out at the next lane
first_stop : {K : Type 0} (old new : List (Seat K)) (rs : List (List (Result Answer NodeFault))) (replies : List (Result Answer NodeFault)) (d s : Seat K)
    → length rs < length new → AreFirst old rs new → IsRefreshed false (get_or new (length rs) d) replies s → AreRefreshed false old (rs ++ replies ∷ []) (set new (length rs) s)
first_stop [] [] [] r d s h f q = absurd (omega arith)
first_stop [] (n ∷ new) [] r d s h f q = absurd cc
first_stop (o ∷ old) [] [] r d s h f q = absurd (omega arith)
first_stop {K} (o ∷ old) (n ∷ new) [] r d s h f q =
    let same : n ≡ o = cc in
    let rest : new ≡ old = cc in
    (subst (λ (x : Seat K). IsRefreshed false x r s) same q, rest)
first_stop [] new (x ∷ rs) r d s h f q = absurd f
first_stop (o ∷ old) [] (x ∷ rs) r d s h f q = absurd f
first_stop (o ∷ old) (n ∷ new) (x ∷ []) r d s h f q =
    let below : 0 < length new = omega arith in
    (f.0, first_stop old new [] r d s below f.1 q)
first_stop (o ∷ old) (n ∷ new) (x ∷ y ∷ rs) r d s h f q =
    let below : length (y ∷ rs) < length new = omega arith in
    (f.0, first_stop old new (y ∷ rs) r d s below f.1 q)

-- those of all lanes
first_all : {K : Type 0} (old new : List (Seat K)) (rs : List (List (Result Answer NodeFault))) → length new ≤ length rs → AreFirst old rs new → AreRefreshed true old rs new
first_all [] [] [] h f = tt
first_all [] (n ∷ new) [] h f = absurd (omega arith)
first_all (o ∷ old) [] [] h f = absurd cc
first_all (o ∷ old) (n ∷ new) [] h f = absurd (omega arith)
first_all [] new (x ∷ rs) h f = absurd f
first_all (o ∷ old) [] (x ∷ rs) h f = absurd f
first_all (o ∷ old) (n ∷ new) (x ∷ rs) h f = (let below : length new ≤ length rs = omega arith in (f.0, first_all old new rs below f.1))

-- ---- the loop

-- so far those of so many lanes
pub record FirstLanes {K : Type 0} (old new : List (Seat K)) (i : ℕ) : Type 0 where
  pub replies : List (List (Result Answer NodeFault))
  pub count : length replies ≡ i
  pub first : AreFirst old replies new

pub first_none : {K : Type 0} (old : List (Seat K)) → FirstLanes old old 0
first_none old = record { replies = []; count = refl; first = refl }

module _ {K L : Type 0} (seen : L → Seat K) (old : List (Seat K)) (lanes : List L) (i : ℕ) (d b : L) where
  -- the seat at this place, and the seats with another there
  seat_at : (whole : Bool) (replies : List (Result Answer NodeFault)) (n : ℕ) → n ≡ i → IsRefreshed whole (seen (get_or lanes i d)) replies (seen b) → IsRefreshed whole (get_or (map seen lanes) n (seen d)) replies (seen b)
  seat_at whole replies n e q =
      let there : get_or (map seen lanes) n (seen d) ≡ seen (get_or lanes i d) = ap (λ m. get_or (map seen lanes) m (seen d)) e ∙ get_or-map seen lanes i d in
      subst (λ (x : Seat K). IsRefreshed whole x replies (seen b)) (sym there) q

  set_at : (n : ℕ) → n ≡ i → set (map seen lanes) n (seen b) ≡ map seen (set lanes i b)
  set_at n e = ap (λ m. set (map seen lanes) m (seen b)) e ∙ sym (map-set seen lanes i b)

  pub first_more : i < length lanes → IsRefreshedIn true (seen (get_or lanes i d)) (seen b) → FirstLanes old (map seen lanes) i → FirstLanes old (map seen (set lanes i b)) (i + 1)
  first_more h q s =
      let below : length s.replies < length (map seen lanes) = omega (arith, s.count, length-map lanes seen) in
      record {
        replies = s.replies ++ q.0 ∷ [];
        count = length_push s.replies q.0 ∙ ap (λ n. n + 1) s.count;
        first = subst (λ (l : List (Seat K)). AreFirst old (s.replies ++ q.0 ∷ []) l) (set_at (length s.replies) s.count)
            (first_push old (map seen lanes) s.replies q.0 (seen d) (seen b) below s.first (seat_at true q.0 (length s.replies) s.count q.1));
      }

  pub first_out : i < length lanes → IsRefreshedIn false (seen (get_or lanes i d)) (seen b) → FirstLanes old (map seen lanes) i → WereRefreshed false old (map seen (set lanes i b))
  first_out h q s =
      let below : length s.replies < length (map seen lanes) = omega (arith, s.count, length-map lanes seen) in (
        s.replies ++ q.0 ∷ [],
        subst (λ (l : List (Seat K)). AreRefreshed false old (s.replies ++ q.0 ∷ []) l) (set_at (length s.replies) s.count)
            (first_stop old (map seen lanes) s.replies q.0 (seen d) (seen b) below s.first (seat_at false q.0 (length s.replies) s.count q.1)),
      )

pub first_whole : {K L : Type 0} (seen : L → Seat K) (old : List (Seat K)) (lanes : List L) (i : ℕ) → length lanes ≤ i → FirstLanes old (map seen lanes) i → WereRefreshed true old (map seen lanes)
first_whole seen old lanes i h s =
    let all : length (map seen lanes) ≤ length s.replies = omega (arith, s.count, length-map lanes seen) in
    (s.replies, first_all old (map seen lanes) s.replies all s.first)

-- the desks stay as they are
pub ready_on : {K S N : Type 0} (ready : K → Type 0) (lanes : List (Lane K S N)) (i : ℕ) (d b : Lane K S N) → i < length lanes → b.desk ≡ (get_or lanes i d).desk
    → All (λ (l : Lane K S N). IsReady ready l) lanes → All (λ (l : Lane K S N). IsReady ready l) (set lanes i b)
ready_on {K} {S} {N} ready lanes i d b h same all =
    let here : IsReady ready (get_or lanes i d) = All-get_or (λ (l : Lane K S N). IsReady ready l) lanes i d h all in
    All-set (λ (l : Lane K S N). IsReady ready l) lanes i b (subst (λ (k : K). ready k) (sym same) here) all
