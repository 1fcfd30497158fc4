-- What a turn calls, one step before others.
use Rattle.std.proofs.Common.{◌≡◌, ℕ, List, [], ◌∷◌, ◌++◌, Option, Some, None, Result, Ok, Err, true, false, refl, sym, ap, subst}
use Rattle.std.specs.Prelude.{OnOk}
use Rattle.desk_machine.specs.Grants.{IsGrantFor}
use Rattle.desk_machine.specs.Kinds.{IsKind}
use Rattle.desk_machine.specs.declared.call.DeskCall.{DeskCall}
use Rattle.desk_machine.specs.declared.call.DeskReply.{DeskReply}
use Rattle.client_calls.proofs.SeatLemmas.{Leads, NoneLed, signer_none}
use Rattle.edge_kit.specs.declared.bytes.PubKey.{PubKey}
use Rattle.edge_clock.specs.Clocks.{IsWaited}
use Rattle.node_calls.specs.declared.answer.Answer.{Answer}
use Rattle.node_calls.specs.declared.answer.NodeFault.{NodeFault}
use Rattle.node_fallback.specs.Refreshing.{AreAskedFirst, AreFlagged}
use Rattle.node_fallback.specs.Seen.{Seen}
use Rattle.call_plans.specs.Plans.{Plan, Done, Stop, Ask as Step}
use Rattle.call_plans.specs.Paths.{Carries, Comes, Path}
use Rattle.call_plans.proofs.PathLemmas.{carries_step, carries_end, carries_on, carries_short, path_on}
use Rattle.call_plans.proofs.PlanLemmas.{reaches_on}
use Rattle.duty_schedule.specs.Answers.{TakenAnswer}
use Rattle.duty_schedule.specs.Due.{IsDue}
use Rattle.duty_schedule.specs.declared.rows.Duty.{Duty}
use Rattle.duty_plans.specs.Hands.{Free, MayCall, hand_called}
use Rattle.duty_plans.specs.Steps.{Asks, Calls, Replies}
use Rattle.duty_plans.specs.declared.ended.Ended.{Ended}
use Rattle.duty_plans.specs.declared.task.Task.{Task}
use Rattle.duty_plans.specs.declared.work.SlotWork.{SlotWork}
use Rattle.duty_plans.specs.Seats.{Seat}
use Rattle.duty_turns.specs.Lanes.{AreRefreshed}
use Rattle.duty_turns.specs.Standing.{Standing}
use Rattle.duty_turns.specs.Turns.{PartPlan, calls, looks_up, on_standing, refreshes, refreshes_lanes, then_on, waits, works}
use Rattle.duty_turns.specs.TurnSteps.{Does, Fits, HasTaken, House, IsPiece, LanesRefreshed, LooksUp, Due, Own, Owned, Refreshed, Refreshes, RefreshesLanes, SinkSeen, TurnPlan, TurnReply, TurnStep, Waits, Woke, Worked, Works, Writes, Wrote}
use Rattle.duty_asks.specs.Quiet.{Outside, Parts, QuietDoes, done_value, stop_value}
use Rattle.duty_asks.specs.declared.ask.Stop.{Stop as Stopped}
use Rattle.duty_asks.specs.declared.ask.Stop.TheVariants as stop
use Rattle.duty_workers.specs.Working.{WorksDone}
use Rattle.duty_work.specs.Houses.{PartTurns, house, no_signer}

-- up to what is left, and then up to what is left of that
pub comes_more : {S C R X : Type 0} (fits : C → R → Type 0) (does : S → C × R → S → Type 0) (a b c : S) (p q r : Plan C R X) → Comes fits does p q a b → Comes fits does q r b c → Comes fits does p r a c
comes_more fits does a b c p q r g h = record {
  steps = g.steps ++ h.steps;
  path = path_on does a b c g.steps h.steps g.path h.path;
  reaches = reaches_on fits p q r g.steps h.steps g.reaches h.reaches;
}

module _ {K : Type 0} (leads : Leads K) (none : NoneLed leads) (start : Option ℕ) where
  -- ---- steps that call no desk

  quiet_step : (d : K) (ls : List (Seat K)) (x y : Outside) (step : TurnStep) → QuietDoes x step y → Does leads start (house d ls x.nodes x.out) step (house d ls y.nodes y.out)
  quiet_step d ls x y (Own (Asks q), Owned r) h = (record { desk = none d; may = h.0; hand = refl; signer = signer_none no_signer; nodes = h.1 }, ap (λ (o : SinkSeen). house d ls y.nodes o) h.2)
  quiet_step d ls x y (Writes text, Wrote whole piece) h = (h.0, ap (λ (n : List Seen). house d ls n y.out) h.1)
  quiet_step d ls x y step h = absurd h

  quiet_path : (d : K) (ls : List (Seat K)) (x y : Outside) (steps : List TurnStep) → Path QuietDoes x steps y → Path (Does leads start) (house d ls x.nodes x.out) steps (house d ls y.nodes y.out)
  quiet_path d ls x y [] p = ap (λ (z : Outside). house d ls z.nodes z.out) p
  quiet_path d ls x y (e ∷ steps) p = (house d ls p.0.nodes p.0.out, quiet_step d ls x p.0 e p.1, quiet_path d ls p.0 y steps p.2)

  pub quiet_runs : {X : Type 0} (d : K) (ls : List (Seat K)) (x y : Outside) (plan : TurnPlan X) (v : Option X) → Carries Fits QuietDoes plan x y v → Carries Fits (Does leads start) plan (house d ls x.nodes x.out) (house d ls y.nodes y.out) v
  quiet_runs d ls x y plan v c = record { steps = c.steps; path = quiet_path d ls x y c.steps c.path; follows = c.follows }

  pub quiet_comes : {X : Type 0} (d : K) (ls : List (Seat K)) (x y : Outside) (plan rest : TurnPlan X) → Comes Fits QuietDoes plan rest x y → Comes Fits (Does leads start) plan rest (house d ls x.nodes x.out) (house d ls y.nodes y.out)
  quiet_comes d ls x y plan rest c = record { steps = c.steps; path = quiet_path d ls x y c.steps c.path; reaches = c.reaches }

module _ {K : Type 0} (leads : Leads K) (start : Option ℕ) where
  -- ---- one step before others

  pub turn_waits : {X : Type 0} (a b : House K) (moment reached : ℕ) (k : ℕ → TurnPlan X) (v : Option X)
      → IsWaited start moment reached → Carries Fits (Does leads start) (k reached) a b v → Carries Fits (Does leads start) (waits moment k) a b v
  turn_waits a b moment reached k v timed rest = carries_step Fits (Does leads start) (Waits moment) (Woke reached) _ a a b v (timed, refl) tt rest

  pub turn_refreshes : {X : Type 0} (d : K) (ls : List (Seat K)) (ns ms : List Seen) (o : SinkSeen) (b : House K) (replies : List (Result Answer NodeFault)) (next : TurnPlan X) (v : Option X)
      → AreFlagged ns replies ms → Carries Fits (Does leads start) next (house d ls ms o) b v → Carries Fits (Does leads start) (refreshes next) (house d ls ns o) b v
  turn_refreshes d ls ns ms o b replies next v flagged rest =
      carries_step Fits (Does leads start) Refreshes (Refreshed true replies) _ (house d ls ns o) (house d ls ms o) b v ((ms, flagged, refl), refl) tt rest

  pub turn_refresh_cut : {X : Type 0} (d : K) (ls : List (Seat K)) (ns ms : List Seen) (o : SinkSeen) (replies : List (Result Answer NodeFault)) (next : TurnPlan X)
      → AreAskedFirst ns replies ms → Carries Fits (Does leads start) (refreshes next) (house d ls ns o) (house d ls ms o) None
  turn_refresh_cut {X} d ls ns ms o replies next asked =
      let stop : TurnPlan X = Stop in
      carries_step Fits (Does leads start) Refreshes (Refreshed false replies) _ (house d ls ns o) (house d ls ms o) (house d ls ms o) None ((ms, asked, refl), refl) tt
      (carries_end Fits (Does leads start) stop (house d ls ms o) None tt)

  pub turn_refreshes_lanes : {X : Type 0} (d : K) (ls ks : List (Seat K)) (ns : List Seen) (o : SinkSeen) (b : House K) (replies : List (List (Result Answer NodeFault))) (next : TurnPlan X) (v : Option X)
      → AreRefreshed true ls replies ks → Carries Fits (Does leads start) next (house d ks ns o) b v → Carries Fits (Does leads start) (refreshes_lanes next) (house d ls ns o) b v
  turn_refreshes_lanes d ls ks ns o b replies next v asked rest =
      carries_step Fits (Does leads start) RefreshesLanes (LanesRefreshed true replies) _ (house d ls ns o) (house d ks ns o) b v (asked, refl) tt rest

  pub turn_refresh_lanes_cut : {X : Type 0} (d : K) (ls ks : List (Seat K)) (ns : List Seen) (o : SinkSeen) (replies : List (List (Result Answer NodeFault))) (next : TurnPlan X)
      → AreRefreshed false ls replies ks → Carries Fits (Does leads start) (refreshes_lanes next) (house d ls ns o) (house d ks ns o) None
  turn_refresh_lanes_cut {X} d ls ks ns o replies next asked =
      let stop : TurnPlan X = Stop in
      carries_step Fits (Does leads start) RefreshesLanes (LanesRefreshed false replies) _ (house d ls ns o) (house d ks ns o) (house d ks ns o) None (asked, refl) tt
      (carries_end Fits (Does leads start) stop (house d ks ns o) None tt)

  pub turn_calls : {X : Type 0} (d e : K) (ls : List (Seat K)) (ns : List Seen) (o : SinkSeen) (b : House K) (c : DeskCall) (r : DeskReply) (k : DeskReply → TurnPlan X) (v : Option X)
      → MayCall Free c → hand_called Free c r ≡ Free → leads d ((c, r) ∷ []) e → IsKind c r → IsGrantFor c r
      → Carries Fits (Does leads start) (k r) (house e ls ns o) b v → Carries Fits (Does leads start) (calls c k) (house d ls ns o) b v
  turn_calls d e ls ns o b c r k v may hand led kind for rest =
      carries_step Fits (Does leads start) (Own (Calls c)) (Owned (Replies r)) _ (house d ls ns o) (house e ls ns o) b v
      (record { desk = led; may = may; hand = sym hand; signer = signer_none no_signer; nodes = refl }, refl) (kind, for) rest

  pub turn_comes : {X : Type 0} (d e : K) (ls : List (Seat K)) (ns : List Seen) (o : SinkSeen) (c : DeskCall) (r : DeskReply) (k : DeskReply → TurnPlan X)
      → MayCall Free c → hand_called Free c r ≡ Free → leads d ((c, r) ∷ []) e → IsKind c r → IsGrantFor c r
      → Comes Fits (Does leads start) (calls c k) (k r) (house d ls ns o) (house e ls ns o)
  turn_comes d e ls ns o c r k may hand led kind for = record {
    steps = (Own (Calls c), Owned (Replies r)) ∷ [];
    path = (house e ls ns o, (record { desk = led; may = may; hand = sym hand; signer = signer_none no_signer; nodes = refl }, refl), refl);
    reaches = λ more y f. (refl, (kind, for), f);
  }

  pub turn_looks : {X : Type 0} (a b : House K) (answers : List TakenAnswer) (slot : ℕ) (active : List PubKey) (ds : List Duty) (k : List Duty → TurnPlan X) (v : Option X)
      → IsDue answers slot active ds → Carries Fits (Does leads start) (k ds) a b v → Carries Fits (Does leads start) (looks_up answers slot active k) a b v
  turn_looks a b answers slot active ds k v due rest = carries_step Fits (Does leads start) (LooksUp answers slot active) (Due ds) _ a a b v refl due rest

  pub turn_works : {X : Type 0} (d : K) (ls ks : List (Seat K)) (ns : List Seen) (o : SinkSeen) (b : House K) (work : SlotWork) (place : ℕ) (ds : List Task) (rs : List Ended) (k : List Ended → TurnPlan X) (v : Option X)
      → WorksDone leads work place ds ls ks (Some rs) → Carries Fits (Does leads start) (k rs) (house d ks ns o) b v → Carries Fits (Does leads start) (works work place ds k) (house d ls ns o) b v
  turn_works d ls ks ns o b work place ds rs k v w rest =
      carries_step Fits (Does leads start) (Works work place ds) (Worked w.steps (Some rs)) _ (house d ls ns o) (house d ks ns o) b v (w.each, refl) (w.shares, w.has, w.some) rest

  pub turn_works_cut : {X : Type 0} (d : K) (ls ks : List (Seat K)) (ns : List Seen) (o : SinkSeen) (work : SlotWork) (place : ℕ) (ds : List Task) (k : List Ended → TurnPlan X)
      → WorksDone leads work place ds ls ks None → Carries Fits (Does leads start) (works work place ds k) (house d ls ns o) (house d ks ns o) None
  turn_works_cut {X} d ls ks ns o work place ds k w =
      let stop : TurnPlan X = Stop in
      carries_step Fits (Does leads start) (Works work place ds) (Worked w.steps None) _ (house d ls ns o) (house d ks ns o) (house d ks ns o) None (w.each, refl) (w.shares, w.has, w.some)
      (carries_end Fits (Does leads start) stop (house d ks ns o) None tt)

  pub turn_writes : {X : Type 0} (d : K) (ls : List (Seat K)) (ns : List Seen) (o p : SinkSeen) (b : House K) (text : List ℕ) (k : TurnReply → TurnPlan X) (v : Option X)
      → HasTaken o p true text → Carries Fits (Does leads start) (k (Wrote true text)) (house d ls ns p) b v → Carries Fits (Does leads start) (Step (Writes text) k) (house d ls ns o) b v
  turn_writes d ls ns o p b text k v taken rest =
      carries_step Fits (Does leads start) (Writes text) (Wrote true text) k (house d ls ns o) (house d ls ns p) b v (taken, refl) refl rest

  pub turn_write_fails : {X : Type 0} (d : K) (ls : List (Seat K)) (ns : List Seen) (o p : SinkSeen) (b : House K) (text piece : List ℕ) (k : TurnReply → TurnPlan X) (v : Option X)
      → IsPiece text false piece → HasTaken o p false piece → Carries Fits (Does leads start) (k (Wrote false piece)) (house d ls ns p) b v
      → Carries Fits (Does leads start) (Step (Writes text) k) (house d ls ns o) b v
  turn_write_fails d ls ns o p b text piece k v is taken rest =
      carries_step Fits (Does leads start) (Writes text) (Wrote false piece) k (house d ls ns o) (house d ls ns p) b v (taken, refl) is rest

module _ {K : Type 0} (leads : Leads K) (none : NoneLed leads) (start : Option ℕ) where
  -- ---- parts of a turn

  -- what was asked outside the desk is a part of a turn, and one that calls it follows
  pub part_then : (P Q : Standing → Type 0) (p : PartPlan) (next : Standing → PartPlan) (d : K) (ls : List (Seat K)) (x y : Outside) (c : House K) (first second : Result (Unit {0}) Stopped) → first ≡ Ok tt
      → (one : Parts P p x y first) → ((t : Standing) → P t → PartTurns leads start Q (next t) (house d ls y.nodes y.out) c second)
      → PartTurns leads start Q (then_on p next) (house d ls x.nodes x.out) c second
  part_then P Q p next d ls x y c first second e one two =
      let held : P one.after = subst (λ (r : Result (Unit {0}) Stopped). OnOk r (P one.after)) e one.held in
      let run : Carries Fits QuietDoes p x y (Some (Some one.after)) = subst (λ (r : Result (Unit {0}) Stopped). Carries Fits QuietDoes p x y (done_value one.after r)) e one.runs in
      let rest = two one.after held in
      record {
        after = rest.after;
        held = rest.held;
        runs = carries_on Fits (Does leads start) (house d ls x.nodes x.out) (house d ls y.nodes y.out) c p (on_standing next) (Some one.after) (done_value rest.after second) (quiet_runs leads none start d ls x y p (Some (Some one.after)) run) rest.runs;
      }

  stop_part : (p : PartPlan) (next : Standing → PartPlan) (a b : House K) (why : Stopped) → Carries Fits (Does leads start) p a b (stop_value why) → Carries Fits (Does leads start) (then_on p next) a b (stop_value why)
  stop_part p next a b stop.Write run = carries_on Fits (Does leads start) a b b p (on_standing next) None (Some None) run (carries_end Fits (Does leads start) (Done None) b (Some None) refl)
  stop_part p next a b stop.OutOfMemory run = carries_short Fits (Does leads start) a b p (on_standing next) run

  pub part_stops : (P Q : Standing → Type 0) (p : PartPlan) (next : Standing → PartPlan) (d : K) (ls : List (Seat K)) (x y : Outside) (first : Result (Unit {0}) Stopped) (why : Stopped) → first ≡ Err why
      → (one : Parts P p x y first) → PartTurns leads start Q (then_on p next) (house d ls x.nodes x.out) (house d ls y.nodes y.out) (Err why)
  part_stops P Q p next d ls x y first why e one =
      let run : Carries Fits QuietDoes p x y (stop_value why) = subst (λ (r : Result (Unit {0}) Stopped). Carries Fits QuietDoes p x y (done_value one.after r)) e one.runs in
      record { after = one.after; held = tt; runs = stop_part p next (house d ls x.nodes x.out) (house d ls y.nodes y.out) why (quiet_runs leads none start d ls x y p (stop_value why) run) }
