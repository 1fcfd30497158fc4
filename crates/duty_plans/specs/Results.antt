-- How what was done of a duty ended, by the first of its calls that failed.
use Rattle.std.specs.Prelude.{ℕ, List, [], ◌∷◌, Option, Some, None, unwrap_or, Result}
use Rattle.node_calls.specs.declared.answer.Answer.{Answer}
use Rattle.node_fallback.specs.declared.no_node.NoAnswer.{NoAnswer}
use Rattle.duty_schedule.specs.declared.rows.Duty.{Duty}
use Rattle.duty_schedule.specs.declared.rows.Duty.TheVariants as duty
use Rattle.duty_plans.specs.declared.task.Task.{Task}
use Rattle.duty_plans.specs.declared.task.Task.TheVariants as task
use Rattle.duty_plans.specs.declared.got.Got.{Got}
use Rattle.duty_plans.specs.declared.got.Got.TheVariants as got
use Rattle.duty_plans.specs.declared.result.DutyResult.{DutyResult}
use Rattle.duty_plans.specs.declared.result.DutyResult.TheVariants as ended
use Rattle.duty_plans.specs.Reading.{aggregate_of, block_of, grant_of, posted_of, signature_of, vote_of}
use Rattle.duty_plans.specs.Steps.{DutyStep, Calls, Signs, Reveals, Asks, Posts, Replies, Signed, Answered, Taken, came_of}

-- why nothing was got
abbrev pub failed_in : {T : Type 0} → Got T → Option DutyResult
failed_in (got.Given x) = None
failed_in (got.Failed r) = Some r
failed_in got.Nothing = None

-- of what the nodes gave, or that it is not the duty's; blocks are Altair's from this epoch on, or never
abbrev pub failed_duty : Option ℕ → Duty → Result Answer NoAnswer → Option DutyResult
failed_duty altair (duty.Block row) a = failed_in (block_of altair row a)
failed_duty altair (duty.Vote row) a = failed_in (vote_of row a)

-- or not of the votes for this data
abbrev pub failed_answer : Option ℕ → Task → Result Answer NoAnswer → Option DutyResult
failed_answer altair (task.Fresh d) a = failed_duty altair d a
failed_answer altair (task.Again d unsent) a = failed_duty altair d a
failed_answer altair (task.Data row) a = failed_in (vote_of row a)
failed_answer altair (task.Vote row details) a = None
failed_answer altair (task.Choose row details) a = None
failed_answer altair (task.Aggregate row details proof) a = failed_in (aggregate_of details a)

-- how a task ends by this step, where it failed: the desk refused; the service gave no signature; no node gave what was asked for, or
-- it is not the duty's; no node took what was posted
abbrev pub failure_of : Option ℕ → Task → DutyStep → Option DutyResult
failure_of altair t (Calls c, Replies r) = failed_in (grant_of r)
failure_of altair t (Signs grant q, Signed s) = failed_in (signature_of s)
failure_of altair t (Reveals grant q, Signed s) = failed_in (signature_of s)
failure_of altair t (Asks a, Answered tried) = failed_answer altair t (came_of tried)
failure_of altair t (Posts grant p, Taken tried) = failed_in (posted_of (came_of tried))
failure_of altair t s = None

abbrev pub first_of : {A : Type 0} → Option A → Option A → Option A
first_of (Some x) later = Some x
first_of None later = later

-- the first of the steps that failed
abbrev pub first_failure : Option ℕ → Task → List DutyStep → Option DutyResult
first_failure altair t [] = None
first_failure altair t (s ∷ steps) = first_of (failure_of altair t s) (first_failure altair t steps)

-- it decides; where none failed, it is sent
abbrev pub result_by : Option ℕ → Task → List DutyStep → DutyResult
result_by altair t steps = unwrap_or (first_failure altair t steps) ended.Sent
