-- Lanes in their seats, by the calls that their passes made.
use Rattle.std.proofs.Common.{◌≡◌, ◌+◌, ◌<◌, ℕ, zero, suc, All, List, [], ◌∷◌, ◌++◌, Option, Some, drop, length, get_or, map, slice_get, take, refl, sym, ap, ◌∙◌, subst, arith}
use Rattle.std.proofs.lemmas.List.{get_or-map, length-map}
use Rattle.std.proofs.lemmas.Option.{get_or_from_slice_get, slice_get_within, slice_get-get_or}
use Rattle.desk_lock.specs.Passes.{made, number}
use Rattle.desk_machine.specs.declared.call.DeskCall.{DeskCall}
use Rattle.desk_machine.specs.declared.call.DeskReply.{DeskReply}
use Rattle.node_calls.specs.declared.told.NodeCall.{NodeCall}
use Rattle.signer_link.specs.declared.reply.Told.{Told}
use Rattle.desk_seat.specs.Seats.{DeskPass, IsDeskPass, SharedDesk}
use Rattle.duty_plans.specs.Seats.{Seat}
use Rattle.duty_turns.specs.TurnSteps.{House, TurnStep}
use Rattle.duty_plans.specs.Steps.{desk_calls}
use Rattle.duty_workers.specs.Working.{lane_seen, lanes_seen}
use Rattle.duty_workers.specs.declared.lane.Lane.{Lane}
use Rattle.duty_loop.specs.Guarding.{Guarded, lane_steps}
use Rattle.serve_run.specs.Views.{seat_by}
use Rattle.serve_run.specs.Views.{Calls}
use Rattle.serve_run.specs.Clients.{idle_seats, lane_end_seen, lane_ends_seen, lane_seats}
use Rattle.serve_run.specs.Seating.{AreNew, lane_end}
use Rattle.serve_run.specs.declared.lanes.LaneEnd.{LaneEnd}

module _ {K S N : Type 0} (told : S → Option (List Told)) (faults denials : S → ℕ) (node_told : N → Option (List NodeCall)) (node_faults : N → ℕ) where
  abbrev Seen : List (Lane K S N) → List (Seat K)
  Seen lanes = lanes_seen told faults denials node_told node_faults lanes

  module _ (view : K → Calls) where
    -- lanes that have made no call
    pub lanes_idle : (lanes : List (Lane K S N)) → All (λ (lane : Lane K S N). view lane.desk ≡ []) lanes → map (seat_by view) (Seen lanes) ≡ idle_seats (lane_ends_seen told faults denials node_told node_faults (map lane_end lanes))
    lanes_idle [] none = refl
    lanes_idle (l ∷ ls) none =
        let first : view l.desk ≡ [] = none 0 l (omega arith) in
        let rest = lanes_idle ls (λ k d lt. none (suc k) d (omega (arith, lt))) in
        let P : Calls → Seat Calls = λ calls. record (seat_by view (lane_seen told faults denials node_told node_faults l)) { desk = calls } in
        ap (λ s. s ∷ map (seat_by view) (Seen ls)) (ap P first) ∙ ap (λ ss. P [] ∷ ss) rest

    -- lanes by the calls that they made
    pub lanes_made_so : (lanes : List (Lane K S N)) → map (seat_by view) (Seen lanes) ≡ lane_seats (lane_ends_seen told faults denials node_told node_faults (map lane_end lanes)) (map (λ (lane : Lane K S N). view lane.desk) lanes)
    lanes_made_so [] = refl
    lanes_made_so (l ∷ ls) = ap (λ ss. seat_by view (lane_seen told faults denials node_told node_faults l) ∷ ss) (lanes_made_so ls)

  -- as many
  pub lanes_long : (leads : K → List (DeskCall × DeskReply) → K → Type 0) (a b : House K) (steps : List TurnStep) (before now : List (Lane K S N)) → Guarded leads a b steps → a.lanes ≡ Seen before → b.lanes ≡ Seen now → length now ≡ length before
  lanes_long leads a b steps before now g ea eb =
      let f : Lane K S N → Seat K = lane_seen told faults denials node_told node_faults in
      sym (length-map now f) ∙ ap (λ (l : List (Seat K)). length l) (sym eb) ∙ g.same_lanes ∙ ap (λ (l : List (Seat K)). length l) ea ∙ length-map before f

  -- what each lane's desk was led on by
  pub lane_led : (leads : K → List (DeskCall × DeskReply) → K → Type 0) (a b : House K) (steps : List TurnStep) (before now : List (Lane K S N)) → Guarded leads a b steps → a.lanes ≡ Seen before → b.lanes ≡ Seen now
      → (k : ℕ) (d : Lane K S N) → k < length before → leads (get_or before k d).desk (desk_calls (lane_steps k steps)) (get_or now k d).desk
  lane_led leads a b steps before now g ea eb k d lt =
      let f : Lane K S N → Seat K = lane_seen told faults denials node_told node_faults in
      let long_a : length a.lanes ≡ length before = ap (λ (l : List (Seat K)). length l) ea ∙ length-map before f in
      let long_b : length b.lanes ≡ length now = ap (λ (l : List (Seat K)). length l) eb ∙ length-map now f in
      let same = g.same_lanes in
      let lt_now : k < length now = omega (arith, lt, long_a, long_b, same) in
      let at : slice_get a.lanes k ≡ Some (f (get_or before k d)) = subst (λ (l : List (Seat K)). slice_get l k ≡ Some (f (get_or before k d))) (sym ea) (found f before k d lt) in
      let to : slice_get b.lanes k ≡ Some (f (get_or now k d)) = subst (λ (l : List (Seat K)). slice_get l k ≡ Some (f (get_or now k d))) (sym eb) (found f now k d lt_now) in
      (g.lanes k (f (get_or before k d)) (f (get_or now k d)) at to).desk
    where
      found : (f : Lane K S N → Seat K) (xs : List (Lane K S N)) (k : ℕ) (d : Lane K S N) → k < length xs → slice_get (map f xs) k ≡ Some (f (get_or xs k d))
      found f xs k d lt = let long = length-map xs f in slice_get-get_or (map f xs) k (f d) (omega (arith, lt, long)) ∙ ap Some (get_or-map f xs k d (f d) lt)

module _ {S N : Type 0} (told : S → Option (List Told)) (faults denials : S → ℕ) (node_told : N → Option (List NodeCall)) (node_faults : N → ℕ) where
  pub ends_long : (lanes : List (LaneEnd S N)) → length (lane_ends_seen told faults denials node_told node_faults lanes) ≡ length lanes
  ends_long lanes = length-map lanes (λ (lane : LaneEnd S N). lane_end_seen told faults denials node_told node_faults lane)

module _ {D X : Type 0} (moment : D → ℕ) (leaves : D → ℕ → List ℕ → Type 0) (faults : D → ℕ) (f : X → DeskPass D) where
  -- the passes of lanes that keep their numbers, by the calls that they made
  pub lanes_have : (shared : SharedDesk D) (first : ℕ) (before after : List X) → AreNew moment leaves faults shared first (map f before) → length after ≡ length before
      → ((k : ℕ) (d : X) → k < length before → number (f (get_or after k d)) ≡ number (f (get_or before k d)))
      → ((k : ℕ) (d : X) → k < length after → IsDeskPass moment leaves faults shared (f (get_or after k d)))
      → (k : ℕ) (p : DeskPass D) → slice_get (map f after) k ≡ Some p → IsDeskPass moment leaves faults shared p × (number p ≡ first + k) × (made p ≡ get_or (map (λ (x : X). made (f x)) after) k [])
  lanes_have shared first before after new long same ready k p e =
      let within : k < length (map f after) = slice_get_within (map f after) k p e in
      let size = length-map after f in
      let lt : k < length after = omega (arith, within, size) in
      let below : k < length before = omega (arith, lt, long) in
      let x : X = at after k lt in
      let here : f (get_or after k x) ≡ p = sym (get_or-map f after k x (f x) lt) ∙ get_or_from_slice_get (map f after) k p (f x) e in
      let size_before = length-map before f in
      let there : slice_get (map f before) k ≡ Some (f (get_or before k x)) = slice_get-get_or (map f before) k (f x) (omega (arith, below, size_before)) ∙ ap Some (get_or-map f before k x (f x) below) in
      let was = new k (f (get_or before k x)) there in
      let calls : get_or (map (λ (y : X). made (f y)) after) k [] ≡ made p =
      calls_at k lt x ∙ ap (λ (q : DeskPass D). made q) here in
      (subst (λ (q : DeskPass D). IsDeskPass moment leaves faults shared q) here (ready k x lt), sym (ap (λ (q : DeskPass D). number q) here) ∙ same k x below ∙ was.1.0, sym calls)
    where
      at : (xs : List X) (k : ℕ) → k < length xs → X
      at [] k lt = absurd (omega (arith, lt))
      at (x ∷ xs) zero lt = x
      at (x ∷ xs) (suc k) lt = at xs k (omega (arith, lt))

      calls_at : (k : ℕ) → k < length after → (x : X) → get_or (map (λ (y : X). made (f y)) after) k [] ≡ made (f (get_or after k x))
      calls_at k lt x = in_map after k lt x where
        in_map : (xs : List X) (k : ℕ) → k < length xs → (x : X) → get_or (map (λ (y : X). made (f y)) xs) k [] ≡ made (f (get_or xs k x))
        in_map [] k lt x = absurd (omega (arith, lt))
        in_map (y ∷ ys) zero lt x = refl
        in_map (y ∷ ys) (suc k) lt x = in_map ys k (omega (arith, lt)) x

-- a list of which a part as long was written again
pub whole_back : {X : Type 0} (xs ys : List X) (n : ℕ) → n ≡ length xs → length ys ≡ length xs → take n (ys ++ drop (length ys) xs) ≡ ys
whole_back {X} xs ys n size long = ap (λ (k : ℕ). take k (ys ++ drop (length ys) xs)) size ∙ whole xs ys long where
  whole : (xs ys : List X) → length ys ≡ length xs → take (length xs) (ys ++ drop (length ys) xs) ≡ ys
  whole [] [] e = refl
  whole [] (y ∷ ys) e = absurd (omega (arith, e))
  whole (x ∷ xs) [] e = absurd (omega (arith, e))
  whole (x ∷ xs) (y ∷ ys) e = ap (λ (l : List X). y ∷ l) (whole xs ys (omega (arith, e)))
