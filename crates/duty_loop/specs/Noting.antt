-- What is noted of what came of a question.
use Rattle.std.specs.Prelude.{◌≡◌, ℕ, List, Option, Result, Ok, Err}
use Rattle.desk_machine.specs.declared.call.DeskCall.{DeskCall}
use Rattle.desk_machine.specs.declared.call.DeskReply.{DeskReply}
use Rattle.desk_machine.specs.declared.call.DeskReply.TheVariants as reply
use Rattle.node_calls.specs.declared.answer.Answer.{Answer}
use Rattle.node_fallback.specs.declared.no_node.NoAnswer.{NoAnswer}
use Rattle.call_plans.specs.Paths.{Carries, Comes}
use Rattle.duty_turns.specs.Standing.{Standing}
use Rattle.duty_turns.specs.Turns.{PartPlan}
use Rattle.duty_turns.specs.TurnSteps.{Does, Fits, House}
use Rattle.duty_asks.specs.Quiet.{done_value, stop_value}
use Rattle.duty_asks.specs.declared.ask.Asked.{Asked}
use Rattle.duty_asks.specs.declared.ask.Asked.TheVariants as asked
use Rattle.duty_asks.specs.declared.ask.Stop.{Stop}
use Rattle.duty_asks.specs.declared.ask.Stop.TheVariants as stop

-- an answer is gone on with; where there is none nothing is done
abbrev pub NotedSo : {K : Type 0} → (K → List (DeskCall × DeskReply) → K → Type 0) → Option ℕ → (Result Answer NoAnswer → PartPlan) → Standing → Asked → House K → House K → Result (Unit {0}) Stop → Type 0
NotedSo leads start next_by s (asked.Given answer) a b result = Carries Fits (Does leads start) (next_by (Ok answer)) a b (done_value s result)
NotedSo leads start next_by s asked.Nothing a b result = (b ≡ a) × (result ≡ Ok tt)
NotedSo leads start next_by s (asked.Stopped why) a b result = (b ≡ a) × (result ≡ Err why)

-- one note was made, before what follows
abbrev pub NotedOn : {K : Type 0} → (K → List (DeskCall × DeskReply) → K → Type 0) → Option ℕ → PartPlan → PartPlan → House K → House K → Result (Unit {0}) Stop → Type 0
NotedOn leads start plan next a b (Ok done) = Comes Fits (Does leads start) plan next a b
NotedOn leads start plan next a b (Err why) = Carries Fits (Does leads start) plan a b (stop_value why)

-- the replies of a desk that was told of a key
abbrev pub IsNoted : DeskReply → Type 0
IsNoted reply.Noted = Unit {0}
IsNoted reply.Unknown = Unit {0}
IsNoted reply.NotActive = Unit {0}
IsNoted reply.OutOfMemory = Unit {0}
IsNoted r = ⊥

abbrev pub noted_by : DeskReply → Result (Unit {0}) Stop
noted_by reply.OutOfMemory = Err stop.OutOfMemory
noted_by r = Ok tt
