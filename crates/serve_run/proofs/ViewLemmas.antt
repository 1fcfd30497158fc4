-- What ran at seats of a shared desk ran over the calls that they made.
use Rattle.std.proofs.Common.{◌≡◌, ℕ, List, Option, Some, Result, slice_get, sym, ap, ◌∙◌, subst}
use Rattle.std.proofs.lemmas.List.{length-map}
use Rattle.desk_machine.specs.declared.call.DeskCall.{DeskCall}
use Rattle.desk_machine.specs.declared.call.DeskReply.{DeskReply}
use Rattle.call_plans.specs.Plans.{Follows}
use Rattle.duty_plans.specs.declared.setup.DutySetup.{DutySetup}
use Rattle.duty_plans.specs.Seats.{Seat}
use Rattle.duty_plans.specs.Steps.{DutyStep, desk_calls}
use Rattle.duty_turns.specs.declared.held.DutyEnd.{DutyEnd}
use Rattle.duty_turns.specs.TurnSteps.{Fits, House, TurnStep}
use Rattle.duty_turns.specs.Turns.{first_standing}
use Rattle.duty_loop.specs.Guarding.{Guarded, GuardedAt, lane_steps, loop_steps}
use Rattle.duty_work.specs.Houses.{end_value}
use Rattle.duty_loop.specs.Ends.{EndAtFailedDisk}
use Rattle.duty_safety.specs.OnTime.{on_time_turns}
use Rattle.serve_run.specs.Views.{Calls, Grew, IsView, SeesSame, house_by, seat_by}
use Rattle.serve_run.specs.Serving.{DutiesRan}
use Rattle.serve_run.proofs.ShareLemmas.{map_found}

module _ {K : Type 0} (leads : K → List (DeskCall × DeskReply) → K → Type 0) (view : K → Calls) (is : IsView leads view) where
  guarded_at : (a b : K) (steps : List DutyStep) → GuardedAt leads a b steps → GuardedAt Grew (view a) (view b) steps
  guarded_at a b steps g = record { desk = is a b (desk_calls steps) g.desk; posts = g.posts; signs = g.signs; granted = g.granted }

  guarded_seen : (a b : House K) (steps : List TurnStep) → Guarded leads a b steps → Guarded Grew (house_by view a) (house_by view b) steps
  guarded_seen a b steps g = record {
    own = guarded_at a.seat.desk b.seat.desk (loop_steps steps) g.own;
    lanes = λ lane x y ex ey.
        let at : (s : Seat K) × (slice_get a.lanes lane ≡ Some s) × (seat_by view s ≡ x) = map_found (seat_by view) a.lanes lane x ex in
        let to : (s : Seat K) × (slice_get b.lanes lane ≡ Some s) × (seat_by view s ≡ y) = map_found (seat_by view) b.lanes lane y ey in
        let one : GuardedAt Grew (view at.0.desk) (view to.0.desk) (lane_steps lane steps) = guarded_at at.0.desk to.0.desk (lane_steps lane steps) (g.lanes lane at.0 to.0 at.1 to.1) in
        subst (λ (d : Calls). GuardedAt Grew d y.desk (lane_steps lane steps)) (ap (λ (s : Seat Calls). s.desk) at.2)
        (subst (λ (d : Calls). GuardedAt Grew (view at.0.desk) d (lane_steps lane steps)) (ap (λ (s : Seat Calls). s.desk) to.2) one);
    same_lanes = length-map b.lanes (seat_by view) ∙ g.same_lanes ∙ sym (length-map a.lanes (seat_by view));
  }

  pub duties_seen : (clock : Option ℕ) (setup : DutySetup) (a b : House K) (ended : Result (Unit {0}) DutyEnd) → (ran : DutiesRan leads clock setup a b ended)
      → SeesSame clock setup (house_by view a) (house_by view b) (end_value ended) ran.runs.now ran.runs.runs.steps → DutiesRan Grew clock setup (house_by view a) (house_by view b) ended
  duties_seen clock setup a b ended ran seen = record {
    runs = seen.runs;
    guarded = subst (λ (steps : List TurnStep). Guarded Grew (house_by view a) (house_by view b) steps) (sym seen.same) (guarded_seen a b ran.runs.runs.steps ran.guarded);
    later = ran.later;
    write = ran.write;
    disk = λ e. subst (λ (steps : List TurnStep). EndAtFailedDisk (loop_steps steps)) (sym seen.same) (ran.disk e);
    on_time = λ first e lt.
        let Came : ℕ → List TurnStep → Type 0 = λ moment steps. Follows Fits (on_time_turns setup setup.slots (first_standing setup moment)) steps (end_value ended) in
        subst (λ (steps : List TurnStep). Came seen.runs.now steps) (sym seen.same) (subst (λ (moment : ℕ). Came moment ran.runs.runs.steps) (sym seen.from) (ran.on_time first e lt));
  }
