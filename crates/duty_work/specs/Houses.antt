-- What the parts of a turn make of the loop's own desk and nodes, the lanes and the output.
use Rattle.std.specs.Prelude.{◌≡◌, ◌≤◌, ℕ, true, List, Option, Some, None, Result, Ok, Err, OnOk}
use Rattle.std.specs.declared.alloc.AllocError.{AllocError}
use Rattle.desk_machine.specs.declared.call.DeskCall.{DeskCall}
use Rattle.desk_machine.specs.declared.call.DeskReply.{DeskReply}
use Rattle.desk_machine.specs.declared.call.DeskReply.TheVariants as reply
use Rattle.client_calls.specs.Seats.{SignerSeen}
use Rattle.node_fallback.specs.Seen.{Seen}
use Rattle.edge_clock.specs.Clocks.{IsNow}
use Rattle.call_plans.specs.Paths.{Carries, Comes}
use Rattle.duty_plans.specs.declared.ended.Ended.{Ended}
use Rattle.duty_plans.specs.declared.setup.DutySetup.{DutySetup}
use Rattle.duty_plans.specs.Hands.{Free}
use Rattle.duty_plans.specs.Seats.{Seat, at_seat}
use Rattle.duty_asks.specs.Quiet.{done_value}
use Rattle.duty_asks.specs.Placed.{HoldsPlaced}
use Rattle.duty_asks.specs.declared.ask.Stop.{Stop}
use Rattle.duty_asks.specs.declared.ask.Stop.TheVariants as stop
use Rattle.duty_turns.specs.Standing.{Standing}
use Rattle.duty_turns.specs.Turns.{NextPlan, PartPlan, first_standing, turns_plan}
use Rattle.duty_turns.specs.TurnSteps.{Does, Fits, House, SinkSeen, in_house}
use Rattle.duty_turns.specs.declared.held.Held.{Held}
use Rattle.duty_turns.specs.declared.held.DutyEnd.{DutyEnd}
use Rattle.duty_turns.specs.declared.held.DutyEnd.TheVariants as end

-- something is held, in which each vote has its place
abbrev pub IsHolding : Held → Type 0
IsHolding held = (s : Standing) × HoldsPlaced held s

-- the loop itself has no signing service
abbrev pub no_signer : SignerSeen
no_signer = record { told = None; faults = 0; denials = 0 }

-- no grant is in hand
abbrev pub house : {K : Type 0} → K → List (Seat K) → List Seen → SinkSeen → House K
house desk lanes nodes out = in_house (at_seat desk Free no_signer nodes) lanes out

-- what a turn gives: this stands then, or the loop ends; None: memory ran out
abbrev pub next_value : Standing → Result (Unit {0}) DutyEnd → Option (Result Standing DutyEnd)
next_value s (Ok done) = Some (Ok s)
next_value s (Err end.Disk) = Some (Err end.Disk)
next_value s (Err end.Write) = Some (Err end.Write)
next_value s (Err end.OutOfMemory) = None

-- why the loop ends where a part of a turn stopped
abbrev pub end_of : Stop → DutyEnd
end_of stop.Write = end.Write
end_of stop.OutOfMemory = end.OutOfMemory

-- the replies of a desk that was asked whether its disk failed
abbrev pub IsFailed : DeskReply → Type 0
IsFailed (reply.HasFailed failed) = Unit {0}
IsFailed r = ⊥

abbrev pub end_by : DeskReply → Result (Unit {0}) DutyEnd
end_by (reply.HasFailed true) = Err end.Disk
end_by r = Ok tt

-- what of a turn is called of the desk was carried out, before what follows, or memory ran out in it
abbrev pub CalledOn : {K : Type 0} → (K → List (DeskCall × DeskReply) → K → Type 0) → Option ℕ → NextPlan → NextPlan → House K → House K → Result (Unit {0}) AllocError → Type 0
CalledOn leads start plan next a b (Ok done) = Comes Fits (Does leads start) plan next a b
CalledOn leads start plan next a b (Err e) = Carries Fits (Does leads start) plan a b None

-- votes were cast, before what follows of how they ended, or memory ran out in it
abbrev pub CastOn : {K : Type 0} → (K → List (DeskCall × DeskReply) → K → Type 0) → Option ℕ → NextPlan → (List Ended → NextPlan) → House K → House K → Option (List Ended) → Type 0
CastOn leads start plan next_by a b (Some ends) = Comes Fits (Does leads start) plan (next_by ends) a b
CastOn leads start plan next_by a b None = Carries Fits (Does leads start) plan a b None

-- whether memory ran out at a call
abbrev pub short_by : DeskReply → Result (Unit {0}) AllocError
short_by reply.OutOfMemory = Err (record {})
short_by r = Ok tt

-- the replies of a desk that was to export keys
abbrev pub IsExported : DeskReply → Type 0
IsExported (reply.Exported file) = Unit {0}
IsExported reply.OutOfMemory = Unit {0}
IsExported r = ⊥

-- the replies of a desk that was to merge a file
abbrev pub IsMerged : DeskReply → Type 0
IsMerged reply.Disk = Unit {0}
IsMerged (reply.GenesisDiffers kept given) = Unit {0}
IsMerged (reply.TooManyKeys have new) = Unit {0}
IsMerged reply.OutOfMemory = Unit {0}
IsMerged (reply.Full size wanted) = Unit {0}
IsMerged (reply.Merged keys) = Unit {0}
IsMerged r = ⊥

-- the replies of a desk that was to keep messages together
abbrev pub IsRecorded : DeskReply → Type 0
IsRecorded reply.Recorded = Unit {0}
IsRecorded reply.Unfit = Unit {0}
IsRecorded reply.Disk = Unit {0}
IsRecorded reply.OutOfMemory = Unit {0}
IsRecorded (reply.Full size wanted) = Unit {0}
IsRecorded r = ⊥

-- a turn, or what is left of it, was carried out
pub record Turns {K : Type 0} (leads : K → List (DeskCall × DeskReply) → K → Type 0) (start : Option ℕ) (Holds : Standing → Type 0) (plan : NextPlan) (a b : House K) (result : Result (Unit {0}) DutyEnd) : Type 0 where
  pub after : Standing
  pub held : OnOk result (Holds after)
  pub runs : Carries Fits (Does leads start) plan a b (next_value after result)

-- what the loop gives; None: memory ran out
abbrev pub end_value : Result (Unit {0}) DutyEnd → Option (Result (Unit {0}) DutyEnd)
end_value (Ok done) = Some (Ok done)
end_value (Err end.Disk) = Some (Err end.Disk)
end_value (Err end.Write) = Some (Err end.Write)
end_value (Err end.OutOfMemory) = None

-- a part of a turn was carried out: this stands then
pub record PartTurns {K : Type 0} (leads : K → List (DeskCall × DeskReply) → K → Type 0) (start : Option ℕ) (Holds : Standing → Type 0) (plan : PartPlan) (a b : House K) (result : Result (Unit {0}) Stop) : Type 0 where
  pub after : Standing
  pub held : OnOk result (Holds after)
  pub runs : Carries Fits (Does leads start) plan a b (done_value after result)

-- that many turns were taken: all that were wanted, or fewer, where the clock is not told on time and was halted
abbrev pub AreTaken : Option ℕ → ℕ → ℕ → Type 0
AreTaken None wanted turns = turns ≤ wanted
AreTaken (Some start) wanted turns = turns ≡ wanted

-- all turns were carried out, from the clock's moment on; or fewer, up to the end of one, where the clock was halted
pub record RunsFrom {K : Type 0} (leads : K → List (DeskCall × DeskReply) → K → Type 0) (start : Option ℕ) (setup : DutySetup) (a b : House K) (value : Option (Result (Unit {0}) DutyEnd)) : Type 0 where
  pub now : ℕ
  pub is_now : IsNow start now
  pub turns : ℕ
  pub taken : AreTaken start setup.slots turns
  pub runs : Carries Fits (Does leads start) (turns_plan setup turns (first_standing setup now)) a b value
