-- Connections over what a desk is seen as.
use Rattle.std.proofs.Common.{◌≡◌, ◌⊎◌, inl, inr, ℕ, List, [], ◌∷◌, Option, Result, Ok, Err, refl, ap}
use Rattle.desk_machine.specs.declared.call.DeskCall.{DeskCall}
use Rattle.desk_machine.specs.declared.call.DeskReply.{DeskReply}
use Rattle.call_plans.specs.Paths.{Path}
use Rattle.client_calls.specs.Seats.{Ran, Seat}
use Rattle.client_calls.specs.Steps.{ClientPlan, desk_calls}
use Rattle.duty_turns.specs.Times.{epoch_of, slot_of}
use Rattle.keymanager_api.specs.Plans.{message_plan}
use Rattle.keymanager_api.specs.Serving.{LinkSeen, Serves}
use Rattle.keymanager_api.specs.declared.serve.Served.{Served}
use Rattle.keymanager_api.specs.Doors.{Hall}
use Rattle.keymanager_api.specs.Visits.{DoorFailed, EndsAt, GivesNone, ServesAll, Visit, Visits, asks_failed, calls_in}
use Rattle.keymanager_api.specs.declared.connections.ConnectionsEnd.{ConnectionsEnd}
use Rattle.keymanager_api.specs.declared.connections.ConnectionsEnd.TheVariants as end
use Rattle.serve_run.specs.Views.{Calls, Grew, IsView, VisitsSame, caller_by, hall_by}

module _ {K : Type 0} (leads : K → List (DeskCall × DeskReply) → K → Type 0) (view : K → Calls) (is : IsView leads view) where
  ran_seen : {X : Type 0} (plan : ClientPlan X) (a b : Seat K) (value : Option X) → (ran : Ran leads plan a b value) → Ran Grew plan (caller_by view a) (caller_by view b) value
  ran_seen plan a b value ran = record { steps = ran.steps; follows = ran.follows; desk = is a.desk b.desk (desk_calls ran.steps) ran.desk; signer = ran.signer }

  serves_seen : (token : List ℕ) (now : ℕ) (link_before link_now : LinkSeen) (a b : Seat K) (s : Served) → Serves leads token now link_before link_now a b s → Serves Grew token now link_before link_now (caller_by view a) (caller_by view b) s
  serves_seen token now link_before link_now a b s v = record {
    read = v.read;
    left = v.left;
    took = v.took;
    held = v.held;
    continued = v.continued;
    reply = v.reply;
    ran = ran_seen (message_plan token now v.read) a b v.reply v.ran;
    sends = v.sends;
    failed = v.failed;
  }

  module _ {C : Type 0} (see : C → LinkSeen) (start : Option ℕ) (token : List ℕ) (genesis_time : ℕ) where
    visit_seen : (a : Hall K C) (v : Visit C) (b : Hall K C) → Visits leads see start token genesis_time a v b → Visits Grew see start token genesis_time (hall_by view a) v (hall_by view b)
    unfolding serves_seen ran_seen
    visit_seen a v b d = record {
      shown = d.shown;
      gives = d.gives;
      takes_back = d.takes_back;
      later = d.later;
      answered = caller_by view d.answered;
      serves = serves_seen token (epoch_of (slot_of genesis_time v.moment)) (see v.accepted) (see v.finished) a.seat d.answered v.served d.serves;
      asked = is d.answered.desk b.seat.desk (asks_failed v.failed) d.asked;
      signer = d.signer;
      made_are = d.made_are;
    }

    visits_seen : (a : Hall K C) (visits : List (Visit C)) (b : Hall K C) → Path (Visits leads see start token genesis_time) a visits b → Path (Visits Grew see start token genesis_time) (hall_by view a) visits (hall_by view b)
    visits_seen a [] b p = ap (λ (x : Hall K C). hall_by view x) p
    visits_seen a (v ∷ visits) b p = (hall_by view p.0, visit_seen a v p.0 p.1, visits_seen p.0 visits b p.2)

    none_seen : (a b : Hall K C) → GivesNone a b → GivesNone (hall_by view a) (hall_by view b)
    none_seen a b g = record { none = g.none; finished = g.finished; later = g.later; seat = ap (λ (x : Seat K). caller_by view x) g.seat }

    failed_seen : (a b : Hall K C) → DoorFailed a b → DoorFailed (hall_by view a) (hall_by view b)
    failed_seen a b f = record { rose = f.rose; coming = f.coming; finished = f.finished; seat = ap (λ (x : Seat K). caller_by view x) f.seat }

    ends_seen : (wanted : ℕ) (visits : List (Visit C)) (a b : Hall K C) (result : Result (Unit {0}) ConnectionsEnd) → EndsAt wanted visits a b result → EndsAt wanted visits (hall_by view a) (hall_by view b) result
    ends_seen wanted visits a b (Ok done) (up, inl e) = (up, inl (e.0, ap (λ (x : Hall K C). hall_by view x) e.1))
    ends_seen wanted visits a b (Ok done) (up, inr e) = (up, inr (e.0, none_seen a b e.1))
    ends_seen wanted visits a b (Err end.Door) e = (e.0, e.1, failed_seen a b e.2)
    ends_seen wanted visits a b (Err end.Disk) e = (e.0, e.1, ap (λ (x : Hall K C). hall_by view x) e.2)

    pub all_seen : (wanted : ℕ) (a b : Hall K C) (result : Result (Unit {0}) ConnectionsEnd) → (serves : ServesAll leads see start token genesis_time wanted a b result)
        → VisitsSame see start token genesis_time wanted (hall_by view a) (hall_by view b) result serves.visits
    all_seen wanted a b result serves = record {
      serves = record {
        visits = serves.visits;
        last = hall_by view serves.last;
        path = visits_seen a serves.visits serves.last serves.path;
        ends = ends_seen wanted serves.visits serves.last b result serves.ends;
        desk = is a.seat.desk b.seat.desk (calls_in serves.visits) serves.desk;
      };
      same = refl;
    }
