-- Nodes and an output, and what steps make of them that call no desk and sign nothing.
use Rattle.std.specs.Prelude.{◌≡◌, ℕ, true, false, List, Option, Some, None, Result, Ok, Err, OnOk}
use Rattle.node_calls.specs.Fitting.{fits}
use Rattle.node_calls.specs.declared.answer.Answer.{Answer}
use Rattle.node_calls.specs.declared.ask.Ask.{Ask}
use Rattle.node_fallback.specs.Seen.{Seen}
use Rattle.node_fallback.specs.declared.no_node.Cause.{Cause}
use Rattle.node_fallback.specs.declared.no_node.NoAnswer.{NoAnswer}
use Rattle.node_fallback.specs.declared.no_node.NoAnswer.TheVariants as none
use Rattle.call_plans.specs.Plans.{Done}
use Rattle.call_plans.specs.Paths.{Carries, Comes}
use Rattle.duty_plans.specs.Hands.{Free, MayAsk}
use Rattle.duty_plans.specs.Seats.{NodesDo}
use Rattle.duty_plans.specs.Steps.{Asks}
use Rattle.duty_turns.specs.Standing.{Standing}
use Rattle.duty_turns.specs.Lines.{none_line}
use Rattle.duty_turns.specs.Turns.{PartPlan, asks, writes}
use Rattle.duty_turns.specs.TurnSteps.{Fits, HasTaken, IsPiece, Own, Owned, SinkSeen, TurnStep, Writes, Wrote}
use Rattle.duty_asks.specs.declared.ask.Asked.{Asked}
use Rattle.duty_asks.specs.declared.ask.Asked.TheVariants as asked
use Rattle.duty_asks.specs.declared.ask.Stop.{Stop}
use Rattle.duty_asks.specs.declared.ask.Stop.TheVariants as stop

pub record Outside : Type 0 where
  pub nodes : List Seen
  pub out : SinkSeen

abbrev pub outside : List Seen → SinkSeen → Outside
outside nodes out = record { nodes = nodes; out = out }

-- a question that shows no signature, and a text that is written
abbrev pub QuietDoes : Outside → TurnStep → Outside → Type 0
QuietDoes a (Own (Asks q), Owned r) b = MayAsk Free q × NodesDo a.nodes (Asks q, r) b.nodes × (b.out ≡ a.out)
QuietDoes a (Writes text, Wrote whole piece) b = HasTaken a.out b.out whole piece × (b.nodes ≡ a.nodes)
QuietDoes a s b = ⊥

-- what a part of a turn gives where it stops: the output failed, or memory ran out
abbrev pub stop_value : Stop → Option (Option Standing)
stop_value stop.Write = Some None
stop_value stop.OutOfMemory = None

-- what it gives where an answer is taken in so; where no node gave one, the first of these two stands
abbrev pub part_value : (Answer → Standing → Standing) → Standing → Standing → Asked → Option (Option Standing)
part_value take_in without s (asked.Given a) = Some (Some (take_in a s))
part_value take_in without s asked.Nothing = Some (Some without)
part_value take_in without s (asked.Stopped why) = stop_value why

abbrev pub done_value : Standing → Result (Unit {0}) Stop → Option (Option Standing)
done_value s (Ok done) = Some (Some s)
done_value s (Err why) = stop_value why

-- where no node gave an answer, a line says so and this stands
abbrev pub TellsNone : (Result Answer NoAnswer → PartPlan) → Standing → Type 0
TellsNone next_by s = (causes : List Cause) → next_by (Err (none.NoNode causes)) ≡ writes (none_line s.slot) (Done (Some s))

-- a question was asked, before what follows by what came of it
abbrev pub CameSo : Ask → (Result Answer NoAnswer → PartPlan) → Standing → Outside → Outside → Asked → Type 0
CameSo q next_by s a b (asked.Given answer) = (fits q answer ≡ true) × Comes Fits QuietDoes (asks q next_by) (next_by (Ok answer)) a b
CameSo q next_by s a b asked.Nothing = Carries Fits QuietDoes (asks q next_by) a b (Some (Some s))
CameSo q next_by s a b (asked.Stopped why) = Carries Fits QuietDoes (asks q next_by) a b (stop_value why)

-- what came is an answer to this question, if it is one
abbrev pub CameFit : Ask → Asked → Type 0
CameFit q (asked.Given answer) = fits q answer ≡ true
CameFit q came = Unit {0}

-- what came of a question was taken in: this stands then
pub record Took (take_in : Answer → Standing → Standing) (without s : Standing) (Holds : Standing → Type 0) (came : Asked) (result : Result (Unit {0}) Stop) : Type 0 where
  pub after : Standing
  pub held : OnOk result (Holds after)
  pub value : part_value take_in without s came ≡ done_value after result

-- a part of a turn was carried out: this stands then
pub record Parts (Holds : Standing → Type 0) (plan : PartPlan) (a b : Outside) (result : Result (Unit {0}) Stop) : Type 0 where
  pub after : Standing
  pub held : OnOk result (Holds after)
  pub runs : Carries Fits QuietDoes plan a b (done_value after result)

-- a text was written, whole, or a front of it
abbrev pub WritesText : SinkSeen → SinkSeen → List ℕ → Result (Unit {0}) Stop → Type 0
WritesText before now text (Ok done) = HasTaken before now true text
WritesText before now text (Err stop.Write) = (piece : List ℕ) × IsPiece text false piece × HasTaken before now false piece
WritesText before now text (Err stop.OutOfMemory) = ⊥
