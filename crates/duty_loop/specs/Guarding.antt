-- What turns call of the desk, the signing services and the nodes: the loop of its own, and each lane duty after duty.
use Rattle.std.specs.Prelude.{◌≡◌, ℕ, zero, suc, List, [], ◌∷◌, length, slice_get, Some, flat_map}
use Rattle.desk_machine.specs.declared.call.DeskCall.{DeskCall}
use Rattle.desk_machine.specs.declared.call.DeskReply.{DeskReply}
use Rattle.duty_plans.specs.Guards.{PostedGranted, PostsGuarded, SignsGuarded}
use Rattle.duty_plans.specs.Hands.{Free}
use Rattle.duty_plans.specs.Seats.{Seat}
use Rattle.duty_plans.specs.Steps.{DutyStep, desk_calls}
use Rattle.duty_turns.specs.TurnSteps.{House, Own, Owned, TurnStep, Worked, Works}

-- the loop's own calls
abbrev pub own_steps : TurnStep → List DutyStep
own_steps (Own c, Owned r) = (c, r) ∷ []
own_steps s = []

abbrev pub loop_steps : List TurnStep → List DutyStep
loop_steps steps = flat_map own_steps steps

-- the steps at a place, none after the last
abbrev pub steps_at : ℕ → List (List DutyStep) → List DutyStep
steps_at place [] = []
steps_at zero (steps ∷ others) = steps
steps_at (suc place) (steps ∷ others) = steps_at place others

-- and those of a lane, which are counted from 0
abbrev pub share_of : ℕ → TurnStep → List DutyStep
share_of lane (Works work place ds, Worked lanes results) = steps_at lane lanes
share_of lane s = []

abbrev pub lane_steps : ℕ → List TurnStep → List DutyStep
lane_steps lane steps = flat_map (share_of lane) steps

-- The calls of these steps lead the desk from the one to the other. What is signed and posted lies between its grant and the settling of
-- it, without another call of them between, and each message that was posted is one that the desk gave leave for.
pub record GuardedAt {K : Type 0} (leads : K → List (DeskCall × DeskReply) → K → Type 0) (before now : K) (steps : List DutyStep) : Type 0 where
  pub desk : leads before (desk_calls steps) now
  pub posts : PostsGuarded steps
  pub signs : SignsGuarded steps
  pub granted : PostedGranted steps

-- so the loop's own, and those of each lane
pub record Guarded {K : Type 0} (leads : K → List (DeskCall × DeskReply) → K → Type 0) (before now : House K) (steps : List TurnStep) : Type 0 where
  pub own : GuardedAt leads before.seat.desk now.seat.desk (loop_steps steps)
  pub lanes : (lane : ℕ) (a b : Seat K) → slice_get before.lanes lane ≡ Some a → slice_get now.lanes lane ≡ Some b → GuardedAt leads a.desk b.desk (lane_steps lane steps)
  pub same_lanes : length now.lanes ≡ length before.lanes

-- no grant is in hand
abbrev pub AllFree : {K : Type 0} → List (Seat K) → Type 0
AllFree [] = Unit {0}
AllFree (a ∷ others) = (a.hand ≡ Free) × AllFree others

pub record IsFree {K : Type 0} (house : House K) : Type 0 where
  pub own : house.seat.hand ≡ Free
  pub lanes : AllFree house.lanes
