-- Turns over a clock on time: none drops a duty.
use Rattle.std.specs.Prelude.{◌≤◌, ℕ, zero, suc, List, [], ◌∷◌, ◌++◌, length, Option, Some, None, Result, Ok, Err}
use Rattle.edge_kit.specs.declared.bytes.PubKey.{PubKey}
use Rattle.desk_machine.specs.declared.call.DeskCall.TheVariants as call
use Rattle.desk_machine.specs.declared.call.DeskReply.{DeskReply}
use Rattle.desk_machine.specs.declared.call.DeskReply.TheVariants as reply
use Rattle.duty_schedule.specs.declared.rows.Duty.{Duty}
use Rattle.call_plans.specs.Plans.{Done, Stop, bind}
use Rattle.duty_plans.specs.declared.ended.Ended.{Ended}
use Rattle.duty_plans.specs.declared.task.Task.{Task}
use Rattle.duty_plans.specs.declared.result.DutyResult.{DutyResult}
use Rattle.duty_plans.specs.Choices.{aggregate_tasks, reports}
use Rattle.duty_plans.specs.Ends.{merged, results_of}
use Rattle.duty_plans.specs.Tasks.{again_tasks, fresh}
use Rattle.duty_plans.specs.declared.setup.DutySetup.{DutySetup}
use Rattle.duty_turns.specs.declared.held.DutyEnd.{DutyEnd}
use Rattle.duty_turns.specs.declared.held.DutyEnd.TheVariants as end
use Rattle.duty_turns.specs.Lines.{duty_lines}
use Rattle.duty_turns.specs.Standing.{Standing}
use Rattle.duty_turns.specs.Times.{again_start, aggregates_start, next_slot, slot_of, slot_start, votes_start}
use Rattle.duty_turns.specs.TurnSteps.{TurnPlan, TurnStep, Waits, Woke}
use Rattle.duty_turns.specs.Turns.{NextPlan, active_of, asked_plan, at_slot, blocks_in, calls, casts, choices_of, finish_plan, looks_up, next_turn, puts, refreshes, refreshes_lanes, report_plan, shortens, votes_in, waits, with_active, work_of, works}

-- what is said of a wait: of the moment that was waited for and the moment that was reached
abbrev pub Wait : Type 1
Wait = ℕ → ℕ → Type 0

abbrev pub IsWait : Wait → TurnStep → Type 0
IsWait wait (Waits moment, Woke reached) = wait moment reached
IsWait wait s = Unit {0}

-- it holds of each wait of these steps
abbrev pub AllWaits : Wait → List TurnStep → Type 0
AllWaits wait [] = Unit {0}
AllWaits wait (s ∷ steps) = IsWait wait s × AllWaits wait steps

-- a wait is over in the slot for which it was, and not before its moment
abbrev pub WakesInSlot : DutySetup → Wait
WakesInSlot setup moment reached = (moment ≤ reached) × (slot_of setup.genesis_time reached ≤ slot_of setup.genesis_time moment)

-- so is each wait of these steps
abbrev pub AreOnTime : DutySetup → List TurnStep → Type 0
AreOnTime setup steps = AllWaits (WakesInSlot setup) steps

-- ---- turns that drop nothing, whatever moment is reached

-- the aggregates are published, and a line is written of each choice that has something to report
abbrev pub aggregates_on_time : DutySetup → Standing → List Task → List Ended → List Task → NextPlan
aggregates_on_time setup s choices chosen tasks = works (work_of setup s) 0 tasks (λ ends. report_plan setup s.slot choices (reports chosen ends) (at_slot (next_slot s.slot) s))

abbrev pub gathers_on_time : DutySetup → Standing → List Task → List Ended → List Task → NextPlan
gathers_on_time setup s choices chosen [] = report_plan setup s.slot choices (reports chosen []) (at_slot (next_slot s.slot) s)
gathers_on_time setup s choices chosen (t ∷ tasks) = waits (aggregates_start setup.genesis_time s.slot) (λ reached. aggregates_on_time setup s choices chosen (t ∷ tasks))

abbrev pub chooses_on_time : DutySetup → Standing → List Task → NextPlan
chooses_on_time setup s [] = finish_plan setup s.slot (at_slot (next_slot s.slot) s)
chooses_on_time setup s (t ∷ choices) = works (work_of setup s) 0 (t ∷ choices) (λ chosen. gathers_on_time setup s (t ∷ choices) chosen (aggregate_tasks (t ∷ choices) chosen))

-- a line is written of each duty, and aggregates follow
abbrev pub told_on_time : DutySetup → Standing → List Duty → List Ended → List DutyResult → NextPlan
told_on_time setup s ds ends results = puts (duty_lines s.slot ds results) (chooses_on_time setup s (choices_of setup ds ends))

-- what was granted and not sent is tried once more, and a line is written of each duty
abbrev pub tried_on_time : DutySetup → Standing → List Duty → List Ended → List Task → NextPlan
tried_on_time setup s ds ends tasks = works (work_of setup s) 0 tasks (λ again. told_on_time setup s ds ends (merged ends again))

abbrev pub left_on_time : DutySetup → Standing → List Duty → List Ended → List Task → NextPlan
left_on_time setup s ds ends [] = told_on_time setup s ds ends (results_of ends)
left_on_time setup s ds ends (t ∷ tasks) = waits (again_start setup.genesis_time s.slot) (λ reached. tried_on_time setup s ds ends (t ∷ tasks))

abbrev pub again_on_time : DutySetup → Standing → List Duty → List Ended → NextPlan
again_on_time setup s ds ends = left_on_time setup s ds ends (again_tasks ds ends)

-- the votes are cast, and a line is written of each duty
abbrev pub cast_plan : DutySetup → Standing → List Duty → List Ended → NextPlan
cast_plan setup s ds proposed = casts (work_of setup s) (length (blocks_in ds)) (votes_in ds) (λ cast. again_on_time setup s (blocks_in ds ++ votes_in ds) (proposed ++ cast))

-- what is due is done: blocks at once, votes a third into the slot
abbrev pub done_plan : DutySetup → Standing → List Duty → NextPlan
done_plan setup s ds = works (work_of setup s) 0 (fresh (blocks_in ds)) (λ proposed. waits (votes_start setup.genesis_time s.slot) (λ reached. cast_plan setup s ds proposed))

abbrev pub ready_on_time : DutySetup → List PubKey → Option Standing → NextPlan
ready_on_time setup active None = Done (Err end.Write)
ready_on_time setup active (Some s) = looks_up s.answers s.slot active (done_plan setup (with_active active s))

abbrev pub listed_on_time : DutySetup → Standing → DeskReply → NextPlan
listed_on_time setup s (reply.Keys listed) = bind (asked_plan setup listed (active_of listed) s) (ready_on_time setup (active_of listed))
listed_on_time setup s r = Stop

abbrev pub on_time_turn : DutySetup → Standing → NextPlan
on_time_turn setup s = waits (slot_start setup.genesis_time s.slot) (λ reached. refreshes (refreshes_lanes (shortens s (calls call.Keys (listed_on_time setup s)))))

-- so many turns
abbrev pub on_time_turns : DutySetup → ℕ → Standing → TurnPlan (Result (Unit {0}) DutyEnd)
on_time_turns setup zero s = Done (Ok tt)
on_time_turns setup (suc n) s = bind (on_time_turn setup s) (next_turn (on_time_turns setup n))
