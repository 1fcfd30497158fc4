-- Lanes, by the calls that their passes made.
use Rattle.std.proofs.Common.{◌≡◌, ◌<◌, ℕ, zero, suc, Bool, All, List, [], ◌∷◌, ◌++◌, inl, inr, length, get_or, map, Result, refl, sym, ap, ◌∙◌, subst, arith}
use Rattle.call_plans.specs.Paths.{Path}
use Rattle.desk_machine.specs.declared.call.DeskCall.{DeskCall}
use Rattle.desk_machine.specs.declared.call.DeskReply.{DeskReply}
use Rattle.client_calls.specs.Seats.{Seat}
use Rattle.keymanager_api.specs.Serving.{LinkSeen}
use Rattle.door_lanes.specs.Doors.{DoorSeen}
use Rattle.door_lanes.specs.Lanes.{Visit, Visits}
use Rattle.door_lanes.specs.Runs.{LanesServed, Ran, Served}
use Rattle.door_lanes.specs.declared.lanes.LoopEnd.{LoopEnd}
use Rattle.proxy_api.specs.Attending.{Attends, Terms}
use Rattle.proxy_lanes.specs.Lanes.{AttendsBy, Calls, LaneSeen}
use Rattle.proxy_lanes.proofs.ViewLemmas.{IsView, attends_seen, seen_by}
use Rattle.proxy_lanes.proofs.LedLemmas.{AtSeats, visits_led}

module _ {K V C : Type 0} (leads : K → List (DeskCall × DeskReply) → K → Type 0) (view : K → Calls) (is : IsView leads view) (see : C → LinkSeen) (terms : V → Terms) (seat : V → Seat K) where
  -- a servant as a lane
  abbrev pub lane_of : V → LaneSeen
  lane_of v = seen_by view (seat v)

  abbrev S : V → C → C → Bool → V → Type 0
  S = AtSeats leads see terms seat

  visits_seen : (p : Terms) (a b : V) (visits : List (Visit C)) → terms a ≡ p → Path (Visits S) a visits b → Path (Visits (AttendsBy see p)) (lane_of a) visits (lane_of b)
  visits_seen p a b [] e h = ap (λ (x : V). lane_of x) h
  visits_seen p a b (v ∷ visits) e h =
      let m : V = h.0 in
      let one : Attends leads p (see v.accepted) (see v.finished) (seat a) (seat m) v.failed = subst (λ (t : Terms). Attends leads t (see v.accepted) (see v.finished) (seat a) (seat m) v.failed) e h.1.1 in
      (lane_of m, attends_seen leads view is p (see v.accepted) (see v.finished) (seat a) (seat m) v.failed one, visits_seen p m b visits (h.1.0 ∙ e) h.2)

  all_rest : (P : V → Type 0) (v : V) (vs : List V) → All P (v ∷ vs) → All P vs
  all_rest P v vs h k d lt = h (suc k) d (omega (arith, lt))

  lanes_seen : (p : Terms) (vs ws : List V) (visits : List (List (Visit C))) → All (λ (v : V). terms v ≡ p) vs → LanesServed S vs visits ws → LanesServed (AttendsBy see p) (map lane_of vs) visits (map lane_of ws)
  lanes_seen p [] [] [] h s = tt
  lanes_seen p [] (w ∷ ws) [] h s = absurd s
  lanes_seen p [] ws (x ∷ xs) h s = absurd s
  lanes_seen p (v ∷ vs) ws [] h s = absurd s
  lanes_seen p (v ∷ vs) [] (x ∷ xs) h s = absurd s
  lanes_seen p (v ∷ vs) (w ∷ ws) (x ∷ xs) h s = (visits_seen p v w x (h 0 v (omega arith)) s.0, lanes_seen p vs ws xs (all_rest (λ (u : V). terms u ≡ p) v vs h) s.1)

  ran_seen : (p : Terms) (wanted : ℕ) (before now : DoorSeen C) (vs ws : List V) (result : Result (Unit {0}) LoopEnd) → All (λ (v : V). terms v ≡ p) vs → Ran S wanted before now vs ws result
      → Ran (AttendsBy see p) wanted before now (map lane_of vs) (map lane_of ws) result
  ran_seen p wanted before now vs ws result h r = record {
    log = r.log;
    mid = r.mid;
    gave = r.gave;
    visits = r.visits;
    served = lanes_seen p vs ws r.visits h r.served;
    kept = r.kept;
    as_many_kept = r.as_many_kept;
    own_are = r.own_are;
    no_others = r.no_others;
    own_back = r.own_back;
    at_once = r.at_once;
    door_stops = r.door_stops;
    disk_stops = r.disk_stops;
    each_ends = r.each_ends;
    once = r.once;
    once_back = r.once_back;
    as_many = r.as_many;
    finished = r.finished;
    coming = r.coming;
    lent = r.lent;
    faults = r.faults;
    ends = r.ends;
  }

  -- servants that served, as lanes
  pub served_seen : (p : Terms) (wanted : ℕ) (before now : DoorSeen C) (vs ws : List V) (result : Result (Unit {0}) LoopEnd) → All (λ (v : V). terms v ≡ p) vs → Served S wanted before now vs ws result
      → Served (AttendsBy see p) wanted before now (map lane_of vs) (map lane_of ws) result
  served_seen p wanted before now vs ws result h (inl n) = inl (n.0, n.1, ap (map lane_of) n.2)
  served_seen p wanted before now vs ws result h (inr r) = inr (ran_seen p wanted before now vs ws result h r)

  module _ (none : (d : K) → leads d [] d) (more : (d e f : K) (xs ys : List (DeskCall × DeskReply)) → leads d xs e → leads e ys f → leads d (xs ++ ys) f) where
    abbrev Led : V → V → Type 0
    Led v w = (calls : List (DeskCall × DeskReply)) × leads (seat v).desk calls (seat w).desk

    led_at : (v w : V) (vs ws : List V) → Led v w → ((k : ℕ) (d : V) → k < length vs → Led (get_or vs k d) (get_or ws k d))
        → (k : ℕ) (d : V) → k < length (v ∷ vs) → Led (get_or (v ∷ vs) k d) (get_or (w ∷ ws) k d)
    led_at v w vs ws one rest zero d lt = one
    led_at v w vs ws one rest (suc k) d lt = rest k d (omega (arith, lt))

    lanes_led : (vs ws : List V) (visits : List (List (Visit C))) → LanesServed S vs visits ws → (length ws ≡ length vs) × ((k : ℕ) (d : V) → k < length vs → Led (get_or vs k d) (get_or ws k d))
    lanes_led [] [] [] s = (refl, λ k d lt. absurd (omega (arith, lt)))
    lanes_led [] (w ∷ ws) [] s = absurd s
    lanes_led [] ws (x ∷ xs) s = absurd s
    lanes_led (v ∷ vs) ws [] s = absurd s
    lanes_led (v ∷ vs) [] (x ∷ xs) s = absurd s
    lanes_led (v ∷ vs) (w ∷ ws) (x ∷ xs) s =
        let rest = lanes_led vs ws xs s.1 in (ap suc rest.0, led_at v w vs ws (visits_led leads none more see terms seat v w x s.0) rest.1)

    -- what each servant's desk was led on by
    pub served_led : (wanted : ℕ) (before now : DoorSeen C) (vs ws : List V) (result : Result (Unit {0}) LoopEnd) → Served S wanted before now vs ws result
        → (length ws ≡ length vs) × ((k : ℕ) (d : V) → k < length vs → Led (get_or vs k d) (get_or ws k d))
    served_led wanted before now vs ws result (inl n) =
        (ap (λ (l : List V). length l) n.2, λ k d lt. ([], subst (λ (l : List V). leads (seat (get_or vs k d)).desk [] (seat (get_or l k d)).desk) (sym n.2) (none (seat (get_or vs k d)).desk)))
    served_led wanted before now vs ws result (inr r) = lanes_led vs ws r.visits r.served
