-- Turns over what a desk is seen as.
use Rattle.std.proofs.Common.{◌≡◌, ℕ, Bool, true, false, List, [], ◌∷◌, Option, Result, refl, ap}
use Rattle.std.specs.Prelude.{map}
use Rattle.desk_machine.specs.declared.call.DeskCall.{DeskCall}
use Rattle.desk_machine.specs.declared.call.DeskReply.{DeskReply}
use Rattle.node_calls.specs.declared.answer.Answer.{Answer}
use Rattle.node_calls.specs.declared.answer.NodeFault.{NodeFault}
use Rattle.call_plans.specs.Paths.{Path}
use Rattle.duty_plans.specs.declared.setup.DutySetup.{DutySetup}
use Rattle.duty_plans.specs.Seats.{Seat}
use Rattle.duty_plans.specs.Seats as seats
use Rattle.duty_plans.specs.Steps.{DutyStep, step_calls}
use Rattle.duty_turns.specs.Lanes.{AreRefreshed, EachDoes, IsRefreshed}
use Rattle.duty_turns.specs.declared.held.DutyEnd.{DutyEnd}
use Rattle.duty_turns.specs.TurnSteps.{Does, House, LanesRefreshed, LooksUp, Due, Own, Owned, Refreshed, Refreshes, RefreshesLanes, TurnStep, Waits, Woke, Worked, Works, Writes, Wrote}
use Rattle.duty_work.specs.Houses.{RunsFrom}
use Rattle.serve_run.specs.Views.{Calls, Grew, IsView, SeesSame, house_by, seat_by}

module _ {K : Type 0} (leads : K → List (DeskCall × DeskReply) → K → Type 0) (view : K → Calls) (is : IsView leads view) where
  seat_does : (a b : Seat K) (s : DutyStep) → seats.Does leads a s b → seats.Does Grew (seat_by view a) s (seat_by view b)
  seat_does a b s d = record { desk = is a.desk b.desk (step_calls s) d.desk; may = d.may; hand = d.hand; signer = d.signer; nodes = d.nodes }

  seat_path : (a b : Seat K) (steps : List DutyStep) → Path (seats.Does leads) a steps b → Path (seats.Does Grew) (seat_by view a) steps (seat_by view b)
  seat_path a b [] p = ap (λ (x : Seat K). seat_by view x) p
  seat_path a b (s ∷ steps) p = (seat_by view p.0, seat_does a p.0 s p.1, seat_path p.0 b steps p.2)

  each_does : (old : List (Seat K)) (lanes : List (List DutyStep)) (new : List (Seat K)) → EachDoes leads old lanes new → EachDoes Grew (map (seat_by view) old) lanes (map (seat_by view) new)
  each_does [] [] [] d = tt
  each_does (a ∷ old) (steps ∷ lanes) (b ∷ new) d = (seat_path a b steps d.0, each_does old lanes new d.1)
  each_does [] [] (b ∷ new) d = absurd d
  each_does [] (steps ∷ lanes) new d = absurd d
  each_does (a ∷ old) [] new d = absurd d
  each_does (a ∷ old) (steps ∷ lanes) [] d = absurd d

  refreshed : (whole : Bool) (a : Seat K) (replies : List (Result Answer NodeFault)) (b : Seat K) → IsRefreshed whole a replies b → IsRefreshed whole (seat_by view a) replies (seat_by view b)
  refreshed true a replies b d = (d.0, d.1, ap (λ (x : Seat K). seat_by view x) d.2)
  refreshed false a replies b d = (d.0, d.1, ap (λ (x : Seat K). seat_by view x) d.2)

  all_refreshed : (old : List (Seat K)) (replies : List (List (Result Answer NodeFault))) (new : List (Seat K)) → AreRefreshed true old replies new → AreRefreshed true (map (seat_by view) old) replies (map (seat_by view) new)
  all_refreshed [] [] [] d = tt
  all_refreshed (a ∷ old) (r ∷ rs) (b ∷ new) d = (refreshed true a r b d.0, all_refreshed old rs new d.1)
  all_refreshed [] [] (b ∷ new) d = absurd d
  all_refreshed [] (r ∷ rs) new d = absurd d
  all_refreshed (a ∷ old) [] new d = absurd d
  all_refreshed (a ∷ old) (r ∷ rs) [] d = absurd d

  some_refreshed : (old : List (Seat K)) (replies : List (List (Result Answer NodeFault))) (new : List (Seat K)) → AreRefreshed false old replies new → AreRefreshed false (map (seat_by view) old) replies (map (seat_by view) new)
  some_refreshed [] rs new d = absurd d
  some_refreshed (a ∷ old) [] new d = absurd d
  some_refreshed (a ∷ old) (r ∷ []) [] d = absurd d
  some_refreshed (a ∷ old) (r ∷ []) (b ∷ new) d = (refreshed false a r b d.0, ap (λ (xs : List (Seat K)). map (seat_by view) xs) d.1)
  some_refreshed (a ∷ old) (r ∷ q ∷ rs) [] d = absurd d
  some_refreshed (a ∷ old) (r ∷ q ∷ rs) (b ∷ new) d = (refreshed true a r b d.0, some_refreshed old (q ∷ rs) new d.1)

  lanes_refreshed : (whole : Bool) (old : List (Seat K)) (replies : List (List (Result Answer NodeFault))) (new : List (Seat K)) → AreRefreshed whole old replies new → AreRefreshed whole (map (seat_by view) old) replies (map (seat_by view) new)
  lanes_refreshed true old rs new d = all_refreshed old rs new d
  lanes_refreshed false old rs new d = some_refreshed old rs new d

  module _ (start : Option ℕ) where
    turn_does : (a b : House K) (s : TurnStep) → Does leads start a s b → Does Grew start (house_by view a) s (house_by view b)
    turn_does a b (Waits moment, Woke reached) d = (d.0, ap (λ (x : House K). house_by view x) d.1)
    turn_does a b (Refreshes, Refreshed whole replies) d = (refreshed whole a.seat replies b.seat d.0, ap (λ (x : House K). house_by view x) d.1)
    turn_does a b (RefreshesLanes, LanesRefreshed whole replies) d = (lanes_refreshed whole a.lanes replies b.lanes d.0, ap (λ (x : House K). house_by view x) d.1)
    turn_does a b (Own c, Owned r) d = (seat_does a.seat b.seat (c, r) d.0, ap (λ (x : House K). house_by view x) d.1)
    turn_does a b (LooksUp answers slot active, Due found) d = ap (λ (x : House K). house_by view x) d
    turn_does a b (Works work place found, Worked lanes results) d = (each_does a.lanes lanes b.lanes d.0, ap (λ (x : House K). house_by view x) d.1)
    turn_does a b (Writes text, Wrote whole piece) d = (d.0, ap (λ (x : House K). house_by view x) d.1)
    turn_does a b s d = absurd d

    turn_path : (a b : House K) (steps : List TurnStep) → Path (Does leads start) a steps b → Path (Does Grew start) (house_by view a) steps (house_by view b)
    turn_path a b [] p = ap (λ (x : House K). house_by view x) p
    turn_path a b (s ∷ steps) p = (house_by view p.0, turn_does a p.0 s p.1, turn_path p.0 b steps p.2)

    pub turns_seen : (setup : DutySetup) (a b : House K) (value : Option (Result (Unit {0}) DutyEnd)) → (runs : RunsFrom leads start setup a b value)
        → SeesSame start setup (house_by view a) (house_by view b) value runs.now runs.runs.steps
    turns_seen setup a b value runs = record {
      runs = record {
        now = runs.now;
        is_now = runs.is_now;
        turns = runs.turns;
        taken = runs.taken;
        runs = record { steps = runs.runs.steps; path = turn_path a b runs.runs.steps runs.runs.path; follows = runs.runs.follows };
      };
      from = refl;
      same = refl;
    }
