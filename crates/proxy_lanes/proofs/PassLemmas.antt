-- Passes of a desk that lanes share.
use Rattle.std.proofs.Common.{◌≡◌, ◌⊎◌, ◌+◌, ◌<◌, ◌≤◌, ℕ, zero, suc, Bool, List, [], ◌∷◌, ◌++◌, length, get_or, map, Some, slice_get, Result, Err, refl, sym, ap, ◌∙◌, subst, inl, inr, ⊎_elim, arith}
use Rattle.std.proofs.lemmas.List.{get_or-map, get_or_past, length-map}
use Rattle.std.proofs.lemmas.Option.{get_or_from_slice_get, slice_get_within, slice_get-get_or}
use Rattle.desk_lock.specs.Passes.{IsNew, made, number}
use Rattle.desk_lock.specs.Histories.{own}
use Rattle.client_calls.specs.Seats.{Seat, SignerSeen, at_seat}
use Rattle.check_sign.specs.Contents.{Seen}
use Rattle.desk_seat.specs.Seats.{DeskPass, Grows, IsDeskPass, SharedDesk}
use Rattle.desk_seat.specs.Turns.{Served}
use Rattle.door_lanes.specs.Doors.{DoorSeen}
use Rattle.door_lanes.specs.Lanes.{Visit}
use Rattle.door_lanes.specs.Runs.{LanesServed, Served as DoorServed}
use Rattle.door_lanes.specs.declared.lanes.LoopEnd.{LoopEnd}
use Rattle.door_lanes.specs.declared.lanes.LoopEnd.TheVariants as loop
use Rattle.keymanager_api.specs.Serving.{LinkSeen}
use Rattle.proxy_api.specs.Attending.{Terms}
use Rattle.proxy_lanes.specs.Lanes.{AttendsBy, Calls, LaneSeen, ProxyRan, SharedLanes, idle_lanes}
use Rattle.proxy_lanes.specs.Seating.{AreNew, HaveMade, RanSeated}
use Rattle.proxy_lanes.proofs.ViewLemmas.{seen_by}

module _ {X : Type 0} where
  get_push : (xs : List X) (k : ℕ) (a b : X) → slice_get (xs ++ a ∷ []) k ≡ Some b → (slice_get xs k ≡ Some b) ⊎ ((k ≡ length xs) × (a ≡ b))
  get_push [] zero a b e = inr (refl, cc e)
  get_push [] (suc k) a b e = absurd (cc e)
  get_push (x ∷ xs) zero a b e = inl e
  get_push (x ∷ xs) (suc k) a b e = ⊎_elim (λ t. inl t) (λ t. inr (ap suc t.0, t.1)) (get_push xs k a b e)

  -- something is at the place, or it is after the end
  by_place : (xs : List X) (k : ℕ) → ((x : X) × (slice_get xs k ≡ Some x)) ⊎ (length xs ≤ k)
  by_place [] k = inr (omega arith)
  by_place (x ∷ xs) zero = inl (x, refl)
  by_place (x ∷ xs) (suc k) = ⊎_elim (λ t. inl t) (λ le. inr (omega (arith, le))) (by_place xs k)

-- what was found in a map is of what is found there
map_found : {X Y : Type 0} (f : X → Y) (xs : List X) (k : ℕ) (y : Y) → slice_get (map f xs) k ≡ Some y → (x : X) × (slice_get xs k ≡ Some x) × (f x ≡ y)
map_found f [] k y e = absurd (cc e)
map_found f (x ∷ xs) zero y e = (x, refl, cc e)
map_found f (x ∷ xs) (suc k) y e = map_found f xs k y e

module _ {D : Type 0} (moment : D → ℕ) (leaves : D → ℕ → List ℕ → Type 0) (faults : D → ℕ) where
  -- one pass more
  pub new_push : (shared : SharedDesk D) (first : ℕ) (passes : List (DeskPass D)) (p : DeskPass D) → AreNew moment leaves faults shared first passes
      → IsDeskPass moment leaves faults shared p → IsNew (first + length passes) p → AreNew moment leaves faults shared first (passes ++ p ∷ [])
  new_push shared first passes p h is new = λ k q e. ⊎_elim
      (λ t. h k q t)
      (λ t. subst (λ (x : DeskPass D). IsDeskPass moment leaves faults shared x × IsNew (first + k) x) t.1 (is, subst (λ (n : ℕ). IsNew (first + n) p) (sym t.0) new))
      (get_push passes k p q e)

  -- the passes of servants whose desks grew by these calls
  pub have_made : {X : Type 0} (f : X → DeskPass D) (shared : SharedDesk D) (vs ws : List X) → AreNew moment leaves faults shared 0 (map f vs) → length ws ≡ length vs
      → ((k : ℕ) (d : X) → k < length vs → (calls : Calls) × Grows (f (get_or vs k d)) calls (f (get_or ws k d)))
      → ((k : ℕ) (d : X) → k < length ws → IsDeskPass moment leaves faults shared (f (get_or ws k d)))
      → HaveMade moment leaves faults shared (map (λ (w : X). made (f w)) ws) (map f ws)
  have_made {X} f shared vs ws new long grew ready = record { count = length-map ws f ∙ sym (length-map ws (λ (w : X). made (f w))); each = each }
    where
      each : (k : ℕ) (p : DeskPass D) → slice_get (map f ws) k ≡ Some p → IsDeskPass moment leaves faults shared p × (number p ≡ k) × (made p ≡ get_or (map (λ (w : X). made (f w)) ws) k [])
      each k p e =
          let found = map_found f ws k p e in
          let x : X = found.0 in
          let within : k < length ws = slice_get_within ws k x found.1 in
          let below : k < length vs = omega (arith, within, long) in
          let here : f (get_or ws k x) ≡ p = ap f (get_or_from_slice_get ws k x x found.1) ∙ found.2 in
          let was : DeskPass D = f (get_or vs k x) in
          let size = length-map vs f in
          let there : slice_get (map f vs) k ≡ Some was = slice_get-get_or (map f vs) k was (omega (arith, size, below)) ∙ ap Some (get_or-map f vs k x was below) in
          let at : IsNew (0 + k) was = (new k was there).1 in
          let g = grew k x below in
          let place : 0 + k ≡ k = omega arith in (
            subst (λ (q : DeskPass D). IsDeskPass moment leaves faults shared q) here (ready k x within),
            ap (λ (q : DeskPass D). number q) (sym here) ∙ g.1.number_is ∙ at.0 ∙ place,
            ap (λ (q : DeskPass D). made q) (sym here) ∙ sym (get_or-map (λ (w : X). made (f w)) ws k x [] within),
          )

  -- what the passes made is what the history has
  pub shared_lanes : (shared : SharedDesk D) (lent : Seen D) (calls : List Calls) (passes : List (DeskPass D)) (back : Seen D) → HaveMade moment leaves faults shared calls passes → Served moment leaves faults lent passes back
      → SharedLanes moment leaves faults lent calls back
  shared_lanes shared lent calls passes back h s = record { log = s.log; history = s.history; own_is = own_is; path = s.path }
    where
      own_is : (k : ℕ) → own k s.log ≡ get_or calls k []
      own_is k = ⊎_elim
          (λ t. s.own_is k t.0 t.1 ∙ (h.each k t.0 t.1).2)
          (λ le. s.no_others k le ∙ sym (get_or_past calls k [] (let long = h.count in omega (arith, le, long))))
          (by_place passes k)

  -- nobody called it
  pub idle_shared : (desk : Seen D) (signers : List SignerSeen) → SharedLanes moment leaves faults desk (map (λ (lane : LaneSeen). lane.desk) (idle_lanes signers)) desk
  idle_shared desk signers = record { log = []; history = refl; own_is = λ k. sym (idle k signers); path = refl }
    where
      idle : (k : ℕ) (ss : List SignerSeen) → get_or (map (λ (lane : LaneSeen). lane.desk) (idle_lanes ss)) k [] ≡ []
      idle k [] = refl
      idle zero (s ∷ ss) = refl
      idle (suc k) (s ∷ ss) = idle k ss

  signers_same : (signers : List SignerSeen) → map (λ (lane : LaneSeen). lane.signer) (idle_lanes signers) ≡ signers
  signers_same [] = refl
  signers_same (s ∷ ss) = ap (λ (l : List SignerSeen). s ∷ l) (signers_same ss)

  -- memory was wanted before anything was done
  pub nothing_served : {C : Type 0} (see : C → LinkSeen) (terms : Terms) (wanted : ℕ) (desk : Seen D) (signers : List SignerSeen) (door : DoorSeen C) → ProxyRan moment leaves faults see terms wanted desk desk signers signers door door (Err loop.Memory)
  nothing_served see terms wanted desk signers door = record { lanes = idle_lanes signers; served = inl (refl, refl, refl); signers = signers_same signers; shared = idle_shared desk signers }

-- as many servants are left
module _ {V C : Type 0} (serves : V → C → C → Bool → V → Type 0) where
  lanes_long : (vs ws : List V) (visits : List (List (Visit C))) → LanesServed serves vs visits ws → length ws ≡ length vs
  lanes_long [] [] [] s = refl
  lanes_long [] (w ∷ ws) [] s = absurd s
  lanes_long [] ws (x ∷ xs) s = absurd s
  lanes_long (v ∷ vs) ws [] s = absurd s
  lanes_long (v ∷ vs) [] (x ∷ xs) s = absurd s
  lanes_long (v ∷ vs) (w ∷ ws) (x ∷ xs) s = ap suc (lanes_long vs ws xs s.1)

  pub served_long : (wanted : ℕ) (before now : DoorSeen C) (vs ws : List V) (result : Result (Unit {0}) LoopEnd) → DoorServed serves wanted before now vs ws result → length ws ≡ length vs
  served_long wanted before now vs ws result (inl n) = ap (λ (l : List V). length l) n.2
  served_long wanted before now vs ws result (inr r) = lanes_long vs ws r.visits r.served

module _ {D C : Type 0} (moment : D → ℕ) (leaves : D → ℕ → List ℕ → Type 0) (faults : D → ℕ) (see : C → LinkSeen) (terms : Terms) (wanted : ℕ) where
  module _ (shared : SharedDesk D) (signers_before signers_now : List SignerSeen) (door_before door_now : DoorSeen C) (passes : List (DeskPass D)) (result : Result (Unit {0}) LoopEnd)
      (ran : RanSeated moment leaves faults shared see terms wanted signers_before signers_now door_before door_now passes result) where
    -- as many lanes as signers
    pub lanes_count : length (map (λ (lane : LaneSeen). lane.desk) ran.lanes) ≡ length signers_before
    lanes_count =
        length-map ran.lanes (λ (lane : LaneSeen). lane.desk) ∙ served_long (AttendsBy see terms) wanted door_before door_now (idle_lanes signers_before) ran.lanes result ran.served
        ∙ length-map signers_before (λ (signer : SignerSeen). at_seat {K = Calls} [] signer)

    pub proxy_ran : (lent back : Seen D) → Served moment leaves faults lent passes back → ProxyRan moment leaves faults see terms wanted lent back signers_before signers_now door_before door_now result
    proxy_ran lent back s = record {
      lanes = ran.lanes;
      served = ran.served;
      signers = ran.signers;
      shared = shared_lanes moment leaves faults shared lent (map (λ (lane : LaneSeen). lane.desk) ran.lanes) passes back ran.made_are s;
    }

-- servants that made no call are idle lanes
pub idle_of : {K V S D : Type 0} (view : K → Calls) (seat : V → Seat K) (shows : S → SignerSeen) (signer : V → S) → ((v : V) → (seat v).signer ≡ shows (signer v))
    → (moment : D → ℕ) (leaves : D → ℕ → List ℕ → Type 0) (faults : D → ℕ) (shared : SharedDesk D) (f : V → DeskPass D) → ((v : V) → view (seat v).desk ≡ made (f v))
    → (vs : List V) → AreNew moment leaves faults shared 0 (map f vs) → map (λ (v : V). seen_by view (seat v)) vs ≡ idle_lanes (map shows (map signer vs))
idle_of {K} {V} {S} {D} view seat shows signer same moment leaves faults shared f viewed vs new = from 0 vs new
  where
    from : (n : ℕ) (vs : List V) → AreNew moment leaves faults shared n (map f vs) → map (λ (v : V). seen_by view (seat v)) vs ≡ idle_lanes (map shows (map signer vs))
    from n [] h = refl
    from n (v ∷ vs) h =
        let none : view (seat v).desk ≡ [] = viewed v ∙ (h 0 (f v) refl).1.2 in
        let rest = from (suc n) vs (λ j q e. let m : n + suc j ≡ suc n + j = omega arith in subst (λ (x : ℕ). IsDeskPass moment leaves faults shared q × IsNew x q) m (h (suc j) q e)) in
        let one : seen_by view (seat v) ≡ at_seat [] (shows (signer v)) = ap (λ (calls : Calls). at_seat calls (seat v).signer) none ∙ ap (λ (s : SignerSeen). at_seat {K = Calls} [] s) (same v) in
        ap (λ (lane : LaneSeen). lane ∷ map (λ (u : V). seen_by view (seat u)) vs) one ∙ ap (λ (l : List LaneSeen). at_seat [] (shows (signer v)) ∷ l) rest
