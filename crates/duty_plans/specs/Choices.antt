-- What follows of votes where aggregators are chosen among their validators, and what is reported of it.
use Rattle.std.specs.Prelude.{ℕ, ◌+◌, List, [], ◌∷◌, drop, Option, Some, None}
use Rattle.duty_schedule.specs.declared.rows.Duty.{Duty}
use Rattle.duty_schedule.specs.declared.rows.Duty.TheVariants as duty
use Rattle.duty_plans.specs.declared.ended.Aggregation.{Aggregation}
use Rattle.duty_plans.specs.declared.ended.Aggregation.TheVariants as votes
use Rattle.duty_plans.specs.declared.ended.Ended.{Ended}
use Rattle.duty_plans.specs.declared.result.DutyResult.{DutyResult}
use Rattle.duty_plans.specs.declared.result.DutyResult.TheVariants as ended
use Rattle.duty_plans.specs.declared.task.Task.{Task}
use Rattle.duty_plans.specs.declared.task.Task.TheVariants as task
use Rattle.duty_plans.specs.Tasks.{tasks_by}

-- ---- tasks

-- whether the validator of a vote is chosen, where a node said what its committee is to vote
abbrev pub choice_by : Duty → Option Aggregation → List Task
choice_by (duty.Vote row) (Some (votes.Voted details)) = task.Choose row details ∷ []
choice_by d o = []

abbrev pub choice_of : Duty → Ended → List Task
choice_of d e = choice_by d e.aggregation

abbrev pub choose_tasks : List Duty → List Ended → List Task
choose_tasks ds ends = tasks_by choice_of ds ends

-- the aggregate of a validator that is chosen
abbrev pub aggregate_by : Task → Option Aggregation → List Task
aggregate_by (task.Choose row asked) (Some (votes.Chosen details proof)) = task.Aggregate row details proof ∷ []
aggregate_by t o = []

abbrev pub aggregate_of : Task → Ended → List Task
aggregate_of t e = aggregate_by t e.aggregation

abbrev pub aggregate_tasks : List Task → List Ended → List Task
aggregate_tasks choices ends = tasks_by aggregate_of choices ends

-- ---- reports, where these are the ends of the aggregates from its own on

-- of a validator that is chosen how its aggregate ended, if that was begun; of another one only that its choice failed
abbrev pub report_by : Option Aggregation → DutyResult → List Ended → Option DutyResult
report_by None ended.Sent ends = None
report_by None by ends = Some by
report_by (Some x) by [] = None
report_by (Some x) by (e ∷ ends) = Some e.result

abbrev pub report_of : Ended → List Ended → Option DutyResult
report_of c ends = report_by c.aggregation c.result ends

abbrev pub ends_after : Option Aggregation → List Ended → List Ended
ends_after None ends = ends
ends_after (Some x) ends = drop 1 ends

abbrev pub next_by : Option Aggregation → ℕ → ℕ
next_by None at = at
next_by (Some x) at = at + 1

abbrev pub next_place : Ended → ℕ → ℕ
next_place c at = next_by c.aggregation at

-- one for each choice that ended so
abbrev pub reports : List Ended → List Ended → List (Option DutyResult)
reports [] ends = []
reports (c ∷ cs) ends = report_of c ends ∷ reports cs (ends_after c.aggregation ends)
