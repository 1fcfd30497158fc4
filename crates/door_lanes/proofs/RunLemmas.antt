-- What lanes did with a shared door, put together.
use Rattle.std.proofs.Common.{◌≡◌, ◌⊎◌, ◌+◌, ◌<◌, ◌≤◌, ◌||◌, ℕ, zero, suc, Bool, true, false, All, List, [], ◌∷◌, ◌++◌, Option, Some, None, Result, Ok, Err, length, map, slice_get, refl, sym, ap, ◌∙◌, subst, inl, inr, ⊎_elim, true≢false, arith}
use Rattle.std.specs.List.{list_any}
use Rattle.std.proofs.lemmas.List.{length-append}
use Rattle.std.specs.List.Sorted.{IsPermutation}
use Rattle.std.proofs.lemmas.List.Sorted.{length_permutation}
use Rattle.edge_kit.specs.Causes.{Rose}
use Rattle.edge_kit.specs.Tellings.{Tells}
use Rattle.desk_lock.specs.Histories.{own}
use Rattle.desk_lock.specs.Passes.{Closes, IsNew, made, number}
use Rattle.door_lanes.specs.declared.counted.Taken.{Taken}
use Rattle.door_lanes.specs.declared.counted.Taken.TheVariants as taken
use Rattle.door_lanes.specs.declared.lane.Lane.{Lane}
use Rattle.door_lanes.specs.declared.lane.LaneEnd.{LaneEnd}
use Rattle.door_lanes.specs.declared.lane.LaneEnd.TheVariants as end
use Rattle.door_lanes.specs.declared.lanes.LoopEnd.{LoopEnd}
use Rattle.door_lanes.specs.declared.lanes.LoopEnd.TheVariants as loop
use Rattle.door_lanes.specs.Doors.{Among, AreLent, Asked, CountedSeen, DoorSeen, Empties, Gave, HandsOn, MayAsk, OnlyLast, TakeStep, TookBack, answers, asks, calls, connections_in, counted_anew, replies, returned, returned_in}
use Rattle.door_lanes.specs.DoorLaws.{moves_lent}
use Rattle.door_lanes.specs.Lanes.{NoneFailed, AllWent, EndsAlone, EndsBy, FailedAtLast, LanesEnd, OnlyLastFailed, Visit, accepted_in, finished_in, is_disk, is_door}
use Rattle.door_lanes.specs.Runs.{AnyAmong, SomeLaneFailed, AreNew, AreServed, NoLaneFailed, LanesServed, PassesAre, Ran, RanEnds, RanSeated, SeatedEnds, all_accepted, all_finished}
use Rattle.door_lanes.specs.Seats.{DoorPass, Grows, IsDoorPass, IsUsedPass, SharedDoor}
use Rattle.door_lanes.proofs.DoorLemmas.{among_lane, among_own, gave_log}
use Rattle.door_lanes.proofs.FinishLemmas.{moves_back, tells_on}
use Rattle.door_lanes.proofs.LaneLemmas.{only_last_never}
use Rattle.door_lanes.proofs.OnceLemmas.{below_or_not, each_back, each_once}

-- what one lane's end says of it
disk_up : {C : Type 0} (e : LaneEnd) (rs : List (Taken C)) (vs : List (Visit C)) → is_disk e ≡ false → EndsBy e rs vs → NoneFailed vs
disk_up end.Full rs vs e h = h.2
disk_up end.NoMore rs vs e h = h.2
disk_up end.Door rs vs e h = h.2
disk_up end.Disk rs vs e h = absurd (true≢false e)

disk_failed : {C : Type 0} (e : LaneEnd) (rs : List (Taken C)) (vs : List (Visit C)) → is_disk e ≡ true → EndsBy e rs vs → FailedAtLast vs
disk_failed end.Full rs vs e h = absurd (true≢false (sym e))
disk_failed end.NoMore rs vs e h = absurd (true≢false (sym e))
disk_failed end.Door rs vs e h = absurd (true≢false (sym e))
disk_failed end.Disk rs vs e h = h.1

door_failed : {C : Type 0} (e : LaneEnd) (rs : List (Taken C)) (vs : List (Visit C)) → is_door e ≡ true → EndsBy e rs vs → Among taken.Failed rs
door_failed end.Full rs vs e h = absurd (true≢false (sym e))
door_failed end.NoMore rs vs e h = absurd (true≢false (sym e))
door_failed end.Door rs vs e h = h.0
door_failed end.Disk rs vs e h = absurd (true≢false (sym e))

door_up : {C : Type 0} (e : LaneEnd) (rs : List (Taken C)) (vs : List (Visit C)) → is_door e ≡ false → EndsBy e rs vs → Among taken.Failed rs → ⊥
door_up end.Full rs vs e h a = h.1 a
door_up end.NoMore rs vs e h a = h.1 a
door_up end.Door rs vs e h a = absurd (true≢false e)
door_up end.Disk rs vs e h a = h.0 a

door_last : {C : Type 0} (e : LaneEnd) (rs : List (Taken C)) (vs : List (Visit C)) → EndsBy e rs vs → OnlyLast taken.Failed rs
door_last end.Full rs vs h = only_last_never taken.Failed rs h.1
door_last end.NoMore rs vs h = only_last_never taken.Failed rs h.1
door_last end.Door rs vs h = h.1
door_last end.Disk rs vs h = only_last_never taken.Failed rs h.0

-- neither the disk nor the door failed
complete_end : {C : Type 0} (e : LaneEnd) (rs : List (Taken C)) (vs : List (Visit C)) → is_disk e ≡ false → is_door e ≡ false → EndsBy e rs vs → Among taken.Full rs ⊎ Among taken.NoMore rs
complete_end end.Full rs vs d e h = inl h.0
complete_end end.NoMore rs vs d e h = inr h.0
complete_end end.Door rs vs d e h = absurd (true≢false e)
complete_end end.Disk rs vs d e h = absurd (true≢false d)

-- whatever ended it is a cause of its own
alone_end : {C : Type 0} (e : LaneEnd) (rs : List (Taken C)) (vs : List (Visit C)) → EndsBy e rs vs → EndsAlone rs vs
alone_end end.Full rs vs h = inl (inl h.0)
alone_end end.NoMore rs vs h = inl (inr h.0)
alone_end end.Door rs vs h = inr (inl h.0)
alone_end end.Disk rs vs h = inr (inr h.1)

none_last : {C : Type 0} (vs : List (Visit C)) → NoneFailed vs → OnlyLastFailed vs
none_last [] h = tt
none_last (v ∷ vs) h = ((λ e. absurd (true≢false (sym e ∙ h.0))), none_last vs h.1)

failed_last : {C : Type 0} (vs : List (Visit C)) → FailedAtLast vs → OnlyLastFailed vs
failed_last [] h = tt
failed_last {C} (v ∷ vs) h = ⊎_elim
    (λ (l : (vs ≡ []) × (v.failed ≡ true)). ((λ e. l.0), subst (λ (xs : List (Visit C)). OnlyLastFailed xs) (sym l.0) tt))
    (λ (m : (v.failed ≡ false) × FailedAtLast vs). ((λ e. absurd (true≢false (sym e ∙ m.0))), failed_last vs m.1))
    h

disk_last : {C : Type 0} (e : LaneEnd) (rs : List (Taken C)) (vs : List (Visit C)) → EndsBy e rs vs → OnlyLastFailed vs
disk_last end.Full rs vs h = none_last vs h.2
disk_last end.NoMore rs vs h = none_last vs h.2
disk_last end.Door rs vs h = none_last vs h.2
disk_last end.Disk rs vs h = failed_last vs h.1

get_some : {X : Type 0} (xs : List X) (k : ℕ) → k < length xs → (x : X) × (slice_get xs k ≡ Some x)
get_some [] k lt = absurd (omega (arith, lt))
get_some (x ∷ xs) zero lt = (x, refl)
get_some (x ∷ xs) (suc k) lt = get_some xs k (omega (arith, lt))

or_false : (p q : Bool) → (p || q) ≡ false → (p ≡ false) × (q ≡ false)
or_false true q e = absurd (true≢false e)
or_false false q e = (refl, e)

or_true : (p q : Bool) → (p || q) ≡ true → (p ≡ true) ⊎ (q ≡ true)
or_true true q e = inl refl
or_true false q e = inr e

module _ {C : Type 0} where
  finished_long : (xs : List (Visit C)) → length (finished_in xs) ≡ length (accepted_in xs)
  finished_long [] = refl
  finished_long (x ∷ xs) = ap suc (finished_long xs)

  all_long : (xs : List (List (Visit C))) → length (all_finished xs) ≡ length (all_accepted xs)
  all_long [] = refl
  all_long (x ∷ xs) =
      let a = length-append (finished_in x) (all_finished xs) in
      let b = length-append (accepted_in x) (all_accepted xs) in
      let f = finished_long x in
      let r = all_long xs in
      let s : length (finished_in x ++ all_finished xs) ≡ length (accepted_in x ++ all_accepted xs) = omega (arith, a, b, f, r) in
      s

  served_as_many : (xs : List (List (Asked C))) (os : List (Option C)) (vs : List (List (Visit C))) → AreServed xs os vs → (length xs ≡ length vs) × (length os ≡ length vs)
  served_as_many [] [] [] h = (refl, refl)
  served_as_many [] [] (v ∷ vs) h = absurd h
  served_as_many [] (o ∷ os) vs h = absurd h
  served_as_many (x ∷ xs) [] vs h = absurd h
  served_as_many (x ∷ xs) (o ∷ os) [] h = absurd h
  served_as_many (x ∷ xs) (o ∷ os) (v ∷ vs) h = let m = served_as_many xs os vs h.1 in (ap suc m.0, ap suc m.1)

  -- what the lane at a place did
  served_at : (xs : List (List (Asked C))) (os : List (Option C)) (vs : List (List (Visit C))) → AreServed xs os vs → (k : ℕ) (v : List (Visit C)) → slice_get vs k ≡ Some v
      → (x : List (Asked C)) × (o : Option C) × (slice_get xs k ≡ Some x) × (slice_get os k ≡ Some o) × (connections_in (answers x) ≡ accepted_in v) × (returned_in (calls x) ++ returned o ≡ finished_in v)
  served_at [] [] [] h k v e = absurd (cc e)
  served_at [] [] (w ∷ vs) h k v e = absurd h
  served_at [] (o ∷ os) vs h k v e = absurd h
  served_at (x ∷ xs) [] vs h k v e = absurd h
  served_at (x ∷ xs) (o ∷ os) [] h k v e = absurd h
  served_at (x ∷ xs) (o ∷ os) (w ∷ vs) h zero v e = let s : w ≡ v = cc e in (x, o, refl, refl, h.0.0 ∙ ap (λ (l : List (Visit C)). accepted_in l) s, h.0.1 ∙ ap (λ (l : List (Visit C)). finished_in l) s)
  served_at (x ∷ xs) (o ∷ os) (w ∷ vs) h (suc k) v e = served_at xs os vs h.1 k v e

  any_at : (r : Taken C) (xs : List (List (Asked C))) → AnyAmong r xs → (k : ℕ) × (x : List (Asked C)) × (slice_get xs k ≡ Some x) × Among r (answers x)
  any_at r [] h = absurd h
  any_at r (x ∷ xs) h = ⊎_elim (λ a. (0, x, refl, a)) (λ t. let m = any_at r xs t in (suc m.0, m.1, m.2, m.3)) h

  any_in : (r : Taken C) (xs : List (List (Asked C))) (k : ℕ) (x : List (Asked C)) → slice_get xs k ≡ Some x → Among r (answers x) → AnyAmong r xs
  any_in r [] k x e a = absurd (cc e)
  any_in r (y ∷ xs) zero x e a = let same : y ≡ x = cc e in inl (subst (λ (l : List (Asked C)). Among r (answers l)) (sym same) a)
  any_in r (y ∷ xs) (suc k) x e a = inr (any_in r xs k x e a)

  passes_long : (s : SharedDoor C) (n : ℕ) (xs : List (List (Asked C))) (os : List (Option C)) (ps : List (DoorPass C)) → PassesAre s n xs os ps → length ps ≡ length xs
  passes_long s n [] [] [] h = refl
  passes_long s n [] [] (p ∷ ps) h = absurd h
  passes_long s n [] (o ∷ os) ps h = absurd h
  passes_long s n (x ∷ xs) [] ps h = absurd h
  passes_long s n (x ∷ xs) (o ∷ os) [] h = absurd h
  passes_long s n (x ∷ xs) (o ∷ os) (p ∷ ps) h = ap suc (passes_long s (suc n) xs os ps h.1)

  passes_at : (s : SharedDoor C) (n : ℕ) (xs : List (List (Asked C))) (os : List (Option C)) (ps : List (DoorPass C)) → PassesAre s n xs os ps → (k : ℕ) (p : DoorPass C) → slice_get ps k ≡ Some p → IsDoorPass s p × (number p ≡ n + k)
  passes_at s n [] [] [] h k p e = absurd (cc e)
  passes_at s n [] [] (q ∷ ps) h k p e = absurd h
  passes_at s n [] (o ∷ os) ps h k p e = absurd h
  passes_at s n (x ∷ xs) [] ps h k p e = absurd h
  passes_at s n (x ∷ xs) (o ∷ os) [] h k p e = absurd h
  passes_at s n (x ∷ xs) (o ∷ os) (q ∷ ps) h zero p e =
      let same : q ≡ p = cc e in
      let at : n ≡ n + 0 = omega arith in
      subst (λ (y : DoorPass C). IsDoorPass s y × (number y ≡ n + 0)) same (h.0.0.0, h.0.1 ∙ at)
  passes_at s n (x ∷ xs) (o ∷ os) (q ∷ ps) h (suc k) p e =
      let r = passes_at s (suc n) xs os ps h.1 k p e in
      let at : suc n + k ≡ n + suc k = omega arith in
      (r.0, r.1 ∙ at)

  -- the pass at a place
  pass_at : (s : SharedDoor C) (n : ℕ) (xs : List (List (Asked C))) (os : List (Option C)) (ps : List (DoorPass C)) → PassesAre s n xs os ps → (k : ℕ) (x : List (Asked C)) → slice_get xs k ≡ Some x
      → (p : DoorPass C) × (slice_get ps k ≡ Some p) × (made p ≡ x)
  pass_at s n [] [] [] h k x e = absurd (cc e)
  pass_at s n [] [] (q ∷ ps) h k x e = absurd h
  pass_at s n [] (o ∷ os) ps h k x e = absurd h
  pass_at s n (y ∷ xs) [] ps h k x e = absurd h
  pass_at s n (y ∷ xs) (o ∷ os) [] h k x e = absurd h
  pass_at s n (y ∷ xs) (o ∷ os) (q ∷ ps) h zero x e = let same : y ≡ x = cc e in (q, refl, h.0.2 ∙ same)
  pass_at s n (y ∷ xs) (o ∷ os) (q ∷ ps) h (suc k) x e = pass_at s (suc n) xs os ps h.1 k x e

  -- it handed on what it was given
  hands_at : (s : SharedDoor C) (n : ℕ) (xs : List (List (Asked C))) (os : List (Option C)) (ps : List (DoorPass C)) → PassesAre s n xs os ps → (k : ℕ) (o : Option C) → slice_get os k ≡ Some o
      → (p : DoorPass C) × (slice_get ps k ≡ Some p) × HandsOn 0 (made p) (length (returned o))
  hands_at s n [] [] [] h k o e = absurd (cc e)
  hands_at s n [] [] (q ∷ ps) h k o e = absurd h
  hands_at s n [] (y ∷ os) ps h k o e = absurd h
  hands_at s n (x ∷ xs) [] ps h k o e = absurd h
  hands_at s n (x ∷ xs) (y ∷ os) [] h k o e = absurd h
  hands_at s n (x ∷ xs) (y ∷ os) (q ∷ ps) h zero o e = let same : y ≡ o = cc e in (q, refl, subst (λ (z : Option C). HandsOn 0 (made q) (length (returned z))) same h.0.0.1)
  hands_at s n (x ∷ xs) (y ∷ os) (q ∷ ps) h (suc k) o e = hands_at s (suc n) xs os ps h.1 k o e

  -- the passes are all, each once, in the order of their numbers
  pub all_passes : {V : Type 0} (serves : V → C → C → Bool → V → Type 0) (s : SharedDoor C) (servants left : List V) (ps : List (DoorPass C)) (kept : List (Option C)) (result : Result (Unit {0}) LoopEnd)
      → RanSeated serves s servants ps kept left result → (k : ℕ) (p : DoorPass C) → slice_get ps k ≡ Some p → IsDoorPass s p × (number p ≡ k)
  all_passes serves s servants left ps kept result r k p e = let at : 0 + k ≡ k = omega arith in let h = passes_at s 0 r.asked kept ps r.passes_are k p e in (h.0, h.1 ∙ at)

  served_long : {V : Type 0} (serves : V → C → C → Bool → V → Type 0) (vs : List V) (xs : List (List (Visit C))) (ws : List V) → LanesServed serves vs xs ws → length xs ≡ length vs
  served_long serves [] [] [] h = refl
  served_long serves [] [] (w ∷ ws) h = absurd h
  served_long serves [] (x ∷ xs) ws h = absurd h
  served_long serves (v ∷ vs) [] ws h = absurd h
  served_long serves (v ∷ vs) (x ∷ xs) [] h = absurd h
  served_long serves (v ∷ vs) (x ∷ xs) (w ∷ ws) h = ap suc (served_long serves vs xs ws h.1)

  -- there are as many passes as servants
  pub as_many_passes : {V : Type 0} (serves : V → C → C → Bool → V → Type 0) (s : SharedDoor C) (servants left : List V) (ps : List (DoorPass C)) (kept : List (Option C)) (result : Result (Unit {0}) LoopEnd)
      → RanSeated serves s servants ps kept left result → length ps ≡ length servants
  as_many_passes serves s servants left ps kept result r = passes_long s 0 r.asked kept ps r.passes_are ∙ (served_as_many r.asked kept r.visits r.are).0 ∙ served_long serves servants r.visits left r.served

  module _ (s : SharedDoor C) (o : CountedSeen C) (ps : List (DoorPass C)) (value : CountedSeen C) (c : Closes TakeStep MayAsk o ps value) where
    own_at : (xs : List (List (Asked C))) (os : List (Option C)) (vs : List (List (Visit C))) → PassesAre s 0 xs os ps → AreServed xs os vs → (k : ℕ) (v : List (Visit C)) → slice_get vs k ≡ Some v → connections_in (answers (own k c.log)) ≡ accepted_in v
    own_at xs os vs ph th k v e =
        let t = served_at xs os vs th k v e in
        let a = pass_at s 0 xs os ps ph k t.0 t.2 in
        ap (λ (l : List (Asked C)). connections_in (answers l)) (c.own_is k a.0 a.1 ∙ a.2) ∙ t.4

    back_at : (xs : List (List (Asked C))) (os : List (Option C)) (vs : List (List (Visit C))) → PassesAre s 0 xs os ps → AreServed xs os vs
        → (k : ℕ) (v : List (Visit C)) (o : Option C) → slice_get vs k ≡ Some v → slice_get os k ≡ Some o → returned_in (calls (own k c.log)) ++ returned o ≡ finished_in v
    back_at xs os vs ph th k v o e f =
        let t = served_at xs os vs th k v e in
        let a = pass_at s 0 xs os ps ph k t.0 t.2 in
        let both : Some o ≡ Some t.1 = sym f ∙ t.3 in
        let same : o ≡ t.1 = cc both in
        ap (λ (l : List (Asked C)). returned_in (calls l) ++ returned o) (c.own_is k a.0 a.1 ∙ a.2) ∙ ap (λ (z : Option C). returned_in (calls t.0) ++ returned z) same ∙ t.5

    once_at : (xs : List (List (Asked C))) (os : List (Option C)) → PassesAre s 0 xs os ps → (k : ℕ) (o : Option C) → slice_get os k ≡ Some o → HandsOn 0 (own k c.log) (length (returned o))
    once_at xs os ph k o e = let a = hands_at s 0 xs os ps ph k o e in subst (λ (l : List (Asked C)). HandsOn 0 l (length (returned o))) (sym (c.own_is k a.0 a.1)) a.2

    any_log : (r : Taken C) (xs : List (List (Asked C))) (os : List (Option C)) → PassesAre s 0 xs os ps → AnyAmong r xs → Among r (replies c.log)
    any_log r xs os ph h =
        let m = any_at r xs h in
        let a = pass_at s 0 xs os ps ph m.0 m.1 m.2 in
        let same : m.1 ≡ own m.0 c.log = sym (c.own_is m.0 a.0 a.1 ∙ a.2) in
        among_own m.0 c.log r (subst (λ (l : List (Asked C)). Among r (answers l)) same m.3)

    -- a number is that of a lane, or no pass has it
    lane_at : (xs : List (List (Asked C))) (os : List (Option C)) → PassesAre s 0 xs os ps → (k : ℕ) → (own k c.log ≡ []) ⊎ ((x : List (Asked C)) × (slice_get xs k ≡ Some x) × (own k c.log ≡ x))
    lane_at xs os ph k = ⊎_elim
        (λ lt.
        (let g = get_some xs k lt in
        let a = pass_at s 0 xs os ps ph k g.0 g.1 in
        inr (g.0, g.1, c.own_is k a.0 a.1 ∙ a.2)))
        (λ le. (let long = passes_long s 0 xs os ps ph in inl (c.no_others k (omega (arith, le, long)))))
        (below_or_not k (length xs))

    -- what is among all answers some lane was answered
    log_any : (r : Taken C) (xs : List (List (Asked C))) (os : List (Option C)) → PassesAre s 0 xs os ps → Among r (replies c.log) → AnyAmong r xs
    log_any r xs os ph h =
        let m = among_lane r c.log h in
        ⊎_elim
        (λ none. absurd (subst (λ (l : List (Asked C)). Among r (answers l)) none m.1))
        (λ t. any_in r xs m.0 t.0 t.1 (subst (λ (l : List (Asked C)). Among r (answers l)) t.2 m.1))
        (lane_at xs os ph m.0)

    stops_at : (xs : List (List (Asked C))) (os : List (Option C)) → PassesAre s 0 xs os ps → ((k : ℕ) (x : List (Asked C)) → slice_get xs k ≡ Some x → OnlyLast taken.Failed (answers x)) → (k : ℕ) → OnlyLast taken.Failed (answers (own k c.log))
    stops_at xs os ph f k = ⊎_elim
        (λ none. subst (λ (l : List (Asked C)). OnlyLast taken.Failed (answers l)) (sym none) tt)
        (λ t. subst (λ (l : List (Asked C)). OnlyLast taken.Failed (answers l)) (sym t.2) (f k t.0 t.1))
        (lane_at xs os ph k)

    alone_at : (xs : List (List (Asked C))) (os : List (Option C)) (vs : List (List (Visit C))) → PassesAre s 0 xs os ps → AreServed xs os vs
        → ((k : ℕ) (x : List (Asked C)) (v : List (Visit C)) → slice_get xs k ≡ Some x → slice_get vs k ≡ Some v → EndsAlone (answers x) v)
        → (k : ℕ) (v : List (Visit C)) → slice_get vs k ≡ Some v → EndsAlone (answers (own k c.log)) v
    alone_at xs os vs ph th f k v e =
        let t = served_at xs os vs th k v e in
        let a = pass_at s 0 xs os ps ph k t.0 t.2 in
        subst (λ (l : List (Asked C)). EndsAlone (answers l) v) (sym (c.own_is k a.0 a.1 ∙ a.2)) (f k t.0 v t.2 e)

    ends_at : (before : DoorSeen C) (wanted : ℕ) → o ≡ counted_anew before wanted → (result : Result (Unit {0}) LoopEnd) (rss : List (List (Asked C))) (os : List (Option C)) (xs : List (List (Visit C))) → PassesAre s 0 rss os ps → Gave o (asks c.log) (replies c.log) value → SeatedEnds result rss xs
        → RanEnds result c.log before value xs
    ends_at before wanted is (Ok u) rss os xs ph g h =
        let z : o.given ≡ 0 = ap (λ (x : CountedSeen C). x.given) is in
        let seen : o.door ≡ before = ap (λ (x : CountedSeen C). x.door) is in (
          h.0,
          (λ a. h.1 (log_any taken.Failed rss os ph a)),
          ⊎_elim
              (λ a. (let full = g.full (any_log taken.Full rss os ph a) in let within = g.within (omega (arith, z)) in inl (omega (arith, full, within))))
              (λ a. (let n = any_log taken.NoMore rss os ph a in inr (n, subst (λ (d : DoorSeen C). Empties d.coming value.door.coming) seen (g.none n))))
              h.2,
        )
    ends_at before wanted is (Err loop.Door) rss os xs ph g h =
        let seen : o.door ≡ before = ap (λ (x : CountedSeen C). x.door) is in
        let a = any_log taken.Failed rss os ph h.1 in
        (h.0, a, subst (λ (d : DoorSeen C). Rose d.faults value.door.faults) seen (g.failed a))
    ends_at before wanted is (Err loop.Disk) rss os xs ph g h = h
    ends_at before wanted is (Err loop.Memory) rss os xs ph g h = absurd h

    many : (xs : List (List (Visit C))) → IsPermutation (connections_in (replies c.log)) (all_accepted xs) → length (all_finished xs) ≡ length (connections_in (replies c.log))
    many xs once = all_long xs ∙ length_permutation (connections_in (replies c.log)) (all_accepted xs) once

    module _ {V : Type 0} (serves : V → C → C → Bool → V → Type 0) (servants left : List V) (kept : List (Option C)) (result : Result (Unit {0}) LoopEnd) (r : RanSeated serves s servants ps kept left result) where
      others : (k : ℕ) → length r.visits ≤ k → own k c.log ≡ []
      others k le =
          let a = (served_as_many r.asked kept r.visits r.are).0 in
          let b = passes_long s 0 r.asked kept ps r.passes_are in
          c.no_others k (omega (arith, le, a, b))

      once : IsPermutation (connections_in (replies c.log)) (all_accepted r.visits)
      once = each_once c.log r.visits (own_at r.asked kept r.visits r.passes_are r.are) others

      once_back : IsPermutation (returned_in (asks c.log) ++ returned_in kept) (all_finished r.visits)
      once_back = each_back c.log kept r.visits (served_as_many r.asked kept r.visits r.are).1 (back_at r.asked kept r.visits r.passes_are r.are) others

      -- as many were given as are handed back by turns and in the end
      as_many_back : length (connections_in (replies c.log)) ≡ length (returned_in (asks c.log)) + length (returned_in kept)
      as_many_back = sym (many r.visits once) ∙ length_permutation (returned_in (asks c.log) ++ returned_in kept) (all_finished r.visits) once_back ∙ length-append (returned_in (asks c.log)) (returned_in kept)

      -- all that are kept are lent
      pub lent_all : AreLent value.door.lent (length (returned_in kept))
      lent_all =
          let e = as_many_back in
          moves_lent o.door.lent value.door.lent (length (connections_in (replies c.log))) (length (returned_in (asks c.log))) (length (returned_in kept)) (gave_log [] o c.log value c.legal).lent (omega (arith, e))

      pub ran : (before now : DoorSeen C) (wanted : ℕ) → o ≡ counted_anew before wanted → TookBack value.door (returned_in kept) now → Ran serves wanted before now servants left result
      ran before now wanted is t =
          let g : Gave o (asks c.log) (replies c.log) value = gave_log [] o c.log value c.legal in
          let seen : o.door ≡ before = ap (λ (x : CountedSeen C). x.door) is in
          let lent : now.lent ≡ o.door.lent = moves_back o.door.lent value.door.lent now.lent (length (connections_in (replies c.log))) (length (returned_in (asks c.log))) (length (returned_in kept)) g.lent t.lent as_many_back in
          let finished : Tells o.door.finished now.finished (returned_in (asks c.log) ++ returned_in kept) =
          tells_on o.door.finished value.door.finished now.finished (returned_in (asks c.log)) (returned_in kept) g.finished t.finished in
          record {
            log = c.log;
            mid = value;
            gave = subst (λ (x : CountedSeen C). Gave x (asks c.log) (replies c.log) value) is g;
            visits = r.visits;
            served = r.served;
            kept = kept;
            as_many_kept = (served_as_many r.asked kept r.visits r.are).1;
            own_are = own_at r.asked kept r.visits r.passes_are r.are;
            no_others = others;
            own_back = back_at r.asked kept r.visits r.passes_are r.are;
            at_once = once_at r.asked kept r.passes_are;
            door_stops = stops_at r.asked kept r.passes_are r.door_stops;
            disk_stops = r.disk_stops;
            each_ends = alone_at r.asked kept r.visits r.passes_are r.are r.each_ends;
            once = once;
            once_back = once_back;
            as_many = many r.visits once;
            finished = subst (λ (d : DoorSeen C). Tells d.finished now.finished (returned_in (asks c.log) ++ returned_in kept)) seen finished;
            coming = t.coming;
            lent = lent ∙ ap (λ (d : DoorSeen C). d.lent) seen;
            faults = t.faults;
            ends = ends_at before wanted is result r.asked kept r.visits r.passes_are g r.ends;
          }

module _ {T V C : Type 0} (pass : T → DoorPass C) (at : T → SharedDoor C) (leads : T → List (Asked C) → T → Type 0) (is : (a b : T) (xs : List (Asked C)) → leads a xs b → (at b ≡ at a) × Grows (pass a) xs (pass b))
    (serves : V → C → C → Bool → V → Type 0) where
  abbrev L : Type 0
  L = Lane T V C

  -- lanes in new seats, numbered on from n
  abbrev Fresh : SharedDoor C → ℕ → List L → Type 0
  Fresh s n [] = Unit {0}
  Fresh s n (a ∷ ls) = ((at a.taker ≡ s) × IsNew n (pass a.taker) × (a.kept ≡ None)) × Fresh s (suc n) ls

  fresh : (s : SharedDoor C) (n : ℕ) (ls : List L) → AreNew s n (map (λ (l : L). pass l.taker) ls) → All (λ (l : L). l.kept ≡ None) ls → All (λ (l : L). at l.taker ≡ s) ls → Fresh s n ls
  fresh s n [] f k h = tt
  fresh s n (a ∷ ls) f k h =
      let z : n + 0 ≡ n = omega arith in (
        (h 0 a (omega arith), subst (λ (m : ℕ). IsNew m (pass a.taker)) z (f 0 (pass a.taker) refl).1, k 0 a (omega arith)),
        fresh s (suc n) ls
            (λ j p e. let m : n + suc j ≡ suc n + j = omega arith in subst (λ (x : ℕ). IsDoorPass s p × IsNew x p) m (f (suc j) p e))
            (λ j d lt. k (suc j) d (omega (arith, lt)))
            (λ j d lt. h (suc j) d (omega (arith, lt))),
      )

  abbrev visits_of : (olds news : List L) → AllWent leads serves olds news → List (List (Visit C))
  visits_of [] [] h = []
  visits_of [] (b ∷ news) h = absurd h
  visits_of (a ∷ olds) [] h = absurd h
  visits_of (a ∷ olds) (b ∷ news) h = h.0.visits ∷ visits_of olds news h.1

  abbrev asked_of : (olds news : List L) → AllWent leads serves olds news → List (List (Asked C))
  asked_of [] [] h = []
  asked_of [] (b ∷ news) h = absurd h
  asked_of (a ∷ olds) [] h = absurd h
  asked_of (a ∷ olds) (b ∷ news) h = h.0.asked ∷ asked_of olds news h.1

  served_of : (olds news : List L) (h : AllWent leads serves olds news) → LanesServed serves (map (λ (l : L). l.servant) olds) (visits_of olds news h) (map (λ (l : L). l.servant) news)
  served_of [] [] h = tt
  served_of [] (b ∷ news) h = absurd h
  served_of (a ∷ olds) [] h = absurd h
  served_of (a ∷ olds) (b ∷ news) h = (h.0.did.path, served_of olds news h.1)

  abbrev kept_of : List L → List (Option C)
  kept_of ls = map (λ (l : L). l.kept) ls

  are_of : (s : SharedDoor C) (n : ℕ) (olds news : List L) (h : AllWent leads serves olds news) → Fresh s n olds → AreServed (asked_of olds news h) (kept_of news) (visits_of olds news h)
  are_of s n [] [] h f = tt
  are_of s n [] (b ∷ news) h f = absurd h
  are_of s n (a ∷ olds) [] h f = absurd h
  are_of s n (a ∷ olds) (b ∷ news) h f = ((h.0.did.are, h.0.did.back ∙ ap (λ (x : Option C). returned x ++ finished_in h.0.visits) f.0.2), are_of s (suc n) olds news h.1 f.1)

  passes_of : (s : SharedDoor C) (n : ℕ) (olds news : List L) (h : AllWent leads serves olds news) → Fresh s n olds → All (λ (l : L). IsUsedPass (at l.taker) (pass l.taker) (length (returned l.kept))) news
      → PassesAre s n (asked_of olds news h) (kept_of news) (map (λ (l : L). pass l.taker) news)
  passes_of s n [] [] h f r = tt
  passes_of s n [] (b ∷ news) h f r = absurd h
  passes_of s n (a ∷ olds) [] h f r = absurd h
  passes_of s n (a ∷ olds) (b ∷ news) h f r =
      let g = is a.taker b.taker h.0.asked h.0.did.took in
      let here : at b.taker ≡ s = g.0 ∙ f.0.0 in
      let new = f.0.1 in (
        (
          subst (λ (x : SharedDoor C). IsUsedPass x (pass b.taker) (length (returned b.kept))) here (r 0 b (omega arith)),
          g.1.number_is ∙ new.0,
          g.1.made_is ∙ ap (λ (l : List (Asked C)). l ++ h.0.asked) new.2,
        ),
        passes_of s (suc n) olds news h.1 f.1 (λ j d lt. r (suc j) d (omega (arith, lt))),
      )

  each_up : (olds news : List L) (h : AllWent leads serves olds news) → list_any (λ (l : L). is_disk l.end) news ≡ false → NoLaneFailed (visits_of olds news h)
  each_up [] [] h e = tt
  each_up [] (b ∷ news) h e = absurd h
  each_up (a ∷ olds) [] h e = absurd h
  each_up (a ∷ olds) (b ∷ news) h e = let o = or_false (is_disk b.end) (list_any (λ (l : L). is_disk l.end) news) e in (disk_up b.end (answers h.0.asked) h.0.visits o.0 h.0.ends, each_up olds news h.1 o.1)

  any_failed : (olds news : List L) (h : AllWent leads serves olds news) → list_any (λ (l : L). is_disk l.end) news ≡ true → SomeLaneFailed (visits_of olds news h)
  any_failed [] [] h e = absurd (true≢false (sym e))
  any_failed [] (b ∷ news) h e = absurd h
  any_failed (a ∷ olds) [] h e = absurd h
  any_failed (a ∷ olds) (b ∷ news) h e =
      ⊎_elim (λ o. inl (disk_failed b.end (answers h.0.asked) h.0.visits o h.0.ends)) (λ o. inr (any_failed olds news h.1 o)) (or_true (is_disk b.end) (list_any (λ (l : L). is_disk l.end) news) e)

  any_door : (olds news : List L) (h : AllWent leads serves olds news) → list_any (λ (l : L). is_door l.end) news ≡ true → AnyAmong taken.Failed (asked_of olds news h)
  any_door [] [] h e = absurd (true≢false (sym e))
  any_door [] (b ∷ news) h e = absurd h
  any_door (a ∷ olds) [] h e = absurd h
  any_door (a ∷ olds) (b ∷ news) h e =
      ⊎_elim (λ o. inl (door_failed b.end (answers h.0.asked) h.0.visits o h.0.ends)) (λ o. inr (any_door olds news h.1 o)) (or_true (is_door b.end) (list_any (λ (l : L). is_door l.end) news) e)

  no_door : (olds news : List L) (h : AllWent leads serves olds news) → list_any (λ (l : L). is_door l.end) news ≡ false → AnyAmong taken.Failed (asked_of olds news h) → ⊥
  no_door [] [] h e f = f
  no_door [] (b ∷ news) h e f = absurd h
  no_door (a ∷ olds) [] h e f = absurd h
  no_door (a ∷ olds) (b ∷ news) h e f =
      let o = or_false (is_door b.end) (list_any (λ (l : L). is_door l.end) news) e in
      ⊎_elim (λ (x : Among taken.Failed (answers h.0.asked)). door_up b.end (answers h.0.asked) h.0.visits o.0 h.0.ends x) (λ y. no_door olds news h.1 o.1 y) f

  stops_of : (olds news : List L) (h : AllWent leads serves olds news) → (k : ℕ) (x : List (Asked C)) → slice_get (asked_of olds news h) k ≡ Some x → OnlyLast taken.Failed (answers x)
  stops_of [] [] h k x e = absurd (cc e)
  stops_of [] (b ∷ news) h k x e = absurd h
  stops_of (a ∷ olds) [] h k x e = absurd h
  stops_of (a ∷ olds) (b ∷ news) h zero x e =
      let same : h.0.asked ≡ x = cc e in
      subst (λ (l : List (Asked C)). OnlyLast taken.Failed (answers l)) same (door_last b.end (answers h.0.asked) h.0.visits h.0.ends)
  stops_of (a ∷ olds) (b ∷ news) h (suc k) x e = stops_of olds news h.1 k x e

  disk_stops_of : (olds news : List L) (h : AllWent leads serves olds news) → (k : ℕ) (x : List (Visit C)) → slice_get (visits_of olds news h) k ≡ Some x → OnlyLastFailed x
  disk_stops_of [] [] h k x e = absurd (cc e)
  disk_stops_of [] (b ∷ news) h k x e = absurd h
  disk_stops_of (a ∷ olds) [] h k x e = absurd h
  disk_stops_of (a ∷ olds) (b ∷ news) h zero x e =
      let same : h.0.visits ≡ x = cc e in
      subst (λ (l : List (Visit C)). OnlyLastFailed l) same (disk_last b.end (answers h.0.asked) h.0.visits h.0.ends)
  disk_stops_of (a ∷ olds) (b ∷ news) h (suc k) x e = disk_stops_of olds news h.1 k x e

  alone_of : (olds news : List L) (h : AllWent leads serves olds news) → (k : ℕ) (xs : List (Asked C)) (x : List (Visit C)) → slice_get (asked_of olds news h) k ≡ Some xs → slice_get (visits_of olds news h) k ≡ Some x
      → EndsAlone (answers xs) x
  alone_of [] [] h k xs x e f = absurd (cc e)
  alone_of [] (b ∷ news) h k xs x e f = absurd h
  alone_of (a ∷ olds) [] h k xs x e f = absurd h
  alone_of (a ∷ olds) (b ∷ news) h zero xs x e f =
      let same : h.0.asked ≡ xs = cc e in
      let those : h.0.visits ≡ x = cc f in
      subst (λ (v : List (Visit C)). EndsAlone (answers xs) v) those
      (subst (λ (l : List (Asked C)). EndsAlone (answers l) h.0.visits) same (alone_end b.end (answers h.0.asked) h.0.visits h.0.ends))
  alone_of (a ∷ olds) (b ∷ news) h (suc k) xs x e f = alone_of olds news h.1 k xs x e f

  complete_of : (olds news : List L) (h : AllWent leads serves olds news) → 0 < length news → list_any (λ (l : L). is_disk l.end) news ≡ false → list_any (λ (l : L). is_door l.end) news ≡ false
      → AnyAmong taken.Full (asked_of olds news h) ⊎ AnyAmong taken.NoMore (asked_of olds news h)
  complete_of [] [] h some d e = absurd (omega (arith, some))
  complete_of [] (b ∷ news) h some d e = absurd h
  complete_of (a ∷ olds) [] h some d e = absurd h
  complete_of (a ∷ olds) (b ∷ news) h some d e =
      let x = or_false (is_disk b.end) (list_any (λ (l : L). is_disk l.end) news) d in
      let y = or_false (is_door b.end) (list_any (λ (l : L). is_door l.end) news) e in
      ⊎_elim (λ o. inl (inl o)) (λ o. inr (inl o)) (complete_end b.end (answers h.0.asked) h.0.visits x.0 y.0 h.0.ends)

  ends_of : (result : Result (Unit {0}) LoopEnd) (olds news : List L) (h : AllWent leads serves olds news) → 0 < length news → LanesEnd result news → SeatedEnds result (asked_of olds news h) (visits_of olds news h)
  ends_of (Ok u) olds news h some e = (each_up olds news h e.0, no_door olds news h e.1, complete_of olds news h some e.0 e.1)
  ends_of (Err loop.Disk) olds news h some e = any_failed olds news h e
  ends_of (Err loop.Door) olds news h some e = (each_up olds news h e.0, any_door olds news h e.1)
  ends_of (Err loop.Memory) olds news h some e = absurd e

  pub ran_seated : (s : SharedDoor C) (olds news : List L) (result : Result (Unit {0}) LoopEnd) → AllWent leads serves olds news → 0 < length news → LanesEnd result news
      → AreNew s 0 (map (λ (l : L). pass l.taker) olds) → All (λ (l : L). l.kept ≡ None) olds → All (λ (l : L). at l.taker ≡ s) olds → All (λ (l : L). IsUsedPass (at l.taker) (pass l.taker) (length (returned l.kept))) news
      → RanSeated serves s (map (λ (l : L). l.servant) olds) (map (λ (l : L). pass l.taker) news) (map (λ (l : L). l.kept) news) (map (λ (l : L). l.servant) news) result
  ran_seated s olds news result h some e f k a r =
      let fr = fresh s 0 olds f k a in
      record {
        visits = visits_of olds news h;
        asked = asked_of olds news h;
        served = served_of olds news h;
        passes_are = passes_of s 0 olds news h fr r;
        are = are_of s 0 olds news h fr;
        door_stops = stops_of olds news h;
        disk_stops = disk_stops_of olds news h;
        each_ends = alone_of olds news h;
        ends = ends_of result olds news h some e;
      }
