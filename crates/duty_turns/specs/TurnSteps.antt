-- What a turn does, step by step, and what its objects are before and after a step.
use Rattle.std.specs.Prelude.{◌≡◌, ◌<◌, ◌≤◌, ℕ, Bool, true, false, List, length, take, Option, Result}
use Rattle.std.specs.Io.KnownBytes.{Appends}
use Rattle.edge_kit.specs.Causes.{Rose}
use Rattle.edge_kit.specs.declared.bytes.PubKey.{PubKey}
use Rattle.edge_clock.specs.Clocks.{IsWaited}
use Rattle.desk_machine.specs.declared.call.DeskCall.{DeskCall}
use Rattle.desk_machine.specs.declared.call.DeskReply.{DeskReply}
use Rattle.node_calls.specs.declared.answer.Answer.{Answer}
use Rattle.node_calls.specs.declared.answer.NodeFault.{NodeFault}
use Rattle.duty_schedule.specs.Answers.{TakenAnswer}
use Rattle.duty_schedule.specs.Due.{IsDue}
use Rattle.duty_schedule.specs.declared.rows.Duty.{Duty}
use Rattle.call_plans.specs.Plans.{Plan}
use Rattle.duty_plans.specs.declared.ended.Ended.{Ended}
use Rattle.duty_plans.specs.declared.task.Task.{Task}
use Rattle.duty_plans.specs.declared.work.SlotWork.{SlotWork}
use Rattle.duty_plans.specs.Steps.{DutyCall, DutyReply, DutyStep}
use Rattle.duty_plans.specs.Steps as duties
use Rattle.duty_plans.specs.Seats.{Seat}
use Rattle.duty_plans.specs.Seats as seats
use Rattle.duty_turns.specs.Lanes.{AreRefreshed, DidShares, EachDoes, HasEach, IsRefreshed}

-- a wait for a moment; the loop's own nodes are asked which are syncing, and those of each lane; a call of the loop's own; what is due is
-- looked up; tasks, of which the first has this place in the slot, are done in the lanes; and a text is written
pub data TurnCall : Type 0 where
  Waits : ℕ → TurnCall
  Refreshes : TurnCall
  RefreshesLanes : TurnCall
  Own : DutyCall → TurnCall
  LooksUp : List TakenAnswer → ℕ → List PubKey → TurnCall
  Works : SlotWork → ℕ → List Task → TurnCall
  Writes : List ℕ → TurnCall

-- the moment that was reached; the replies of the nodes, and whether all were asked, and so lane by lane; the reply; what is due; the steps
-- of each lane, and how the tasks ended, None where memory ran out; and whether the whole text was written, and how much of it
pub data TurnReply : Type 0 where
  Woke : ℕ → TurnReply
  Refreshed : Bool → List (Result Answer NodeFault) → TurnReply
  LanesRefreshed : Bool → List (List (Result Answer NodeFault)) → TurnReply
  Owned : DutyReply → TurnReply
  Due : List Duty → TurnReply
  Worked : List (List DutyStep) → Option (List Ended) → TurnReply
  Wrote : Bool → List ℕ → TurnReply

abbrev pub TurnStep : Type 0
TurnStep = TurnCall × TurnReply

abbrev pub TurnPlan : Type 0 → Type 0
TurnPlan X = Plan TurnCall TurnReply X

-- the whole text, or a front of it
abbrev pub IsPiece : List ℕ → Bool → List ℕ → Type 0
IsPiece text true piece = piece ≡ text
IsPiece text false piece = (n : ℕ) × (n < length text) × (piece ≡ take n text)

-- the reply is one that the call may have; tasks are done in one lane at least
abbrev pub Fits : TurnCall → TurnReply → Type 0
Fits (Waits moment) (Woke reached) = Unit {0}
Fits Refreshes (Refreshed whole replies) = Unit {0}
Fits RefreshesLanes (LanesRefreshed whole replies) = Unit {0}
Fits (Own c) (Owned r) = duties.Fits c r
Fits (LooksUp answers slot active) (Due found) = IsDue answers slot active found
Fits (Works work place tasks) (Worked lanes ends) = DidShares work place tasks ends (length lanes) 0 lanes × HasEach tasks ends × (0 < length lanes)
Fits (Writes text) (Wrote whole piece) = IsPiece text whole piece
Fits c r = ⊥

-- ---- the objects

-- what an output holds, and how often it failed
pub record SinkSeen : Type 0 where
  pub held : Option (List ℕ)
  pub faults : ℕ

-- The loop's own desk and nodes, which sign nothing, the lanes, and the output.
pub record House (K : Type 0) : Type 0 where
  pub seat : Seat K
  pub lanes : List (Seat K)
  pub out : SinkSeen

abbrev pub in_house : {K : Type 0} → Seat K → List (Seat K) → SinkSeen → House K
in_house seat lanes out = record { seat = seat; lanes = lanes; out = out }

abbrev pub sink_seen : {O : Type 0} → (O → Option (List ℕ)) → (O → ℕ) → O → SinkSeen
sink_seen held faults out = record { held = held out; faults = faults out }

-- the output took this; a text is cut short only where its count of faults rose
pub record HasTaken (before now : SinkSeen) (whole : Bool) (piece : List ℕ) : Type 0 where
  pub bytes : Appends before.held now.held piece
  pub later : before.faults ≤ now.faults
  pub fault : whole ≡ false → Rose before.faults now.faults

-- a step leads from the one to the other; a clock that is told on time has a start
abbrev pub Does : {K : Type 0} → (K → List (DeskCall × DeskReply) → K → Type 0) → Option ℕ → House K → TurnStep → House K → Type 0
Does leads start a (Waits moment, Woke reached) b = IsWaited start moment reached × (b ≡ a)
Does leads start a (Refreshes, Refreshed whole replies) b = IsRefreshed whole a.seat replies b.seat × (b ≡ in_house b.seat a.lanes a.out)
Does leads start a (RefreshesLanes, LanesRefreshed whole replies) b = AreRefreshed whole a.lanes replies b.lanes × (b ≡ in_house a.seat b.lanes a.out)
Does leads start a (Own c, Owned r) b = seats.Does leads a.seat (c, r) b.seat × (b ≡ in_house b.seat a.lanes a.out)
Does leads start a (LooksUp answers slot active, Due found) b = b ≡ a
Does leads start a (Works work place tasks, Worked lanes ends) b = EachDoes leads a.lanes lanes b.lanes × (b ≡ in_house a.seat b.lanes a.out)
Does leads start a (Writes text, Wrote whole piece) b = HasTaken a.out b.out whole piece × (b ≡ in_house a.seat a.lanes b.out)
Does leads start a s b = ⊥
