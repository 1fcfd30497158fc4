-- The place that a validator has in its committee.
use Rattle.std.specs.Prelude.{◌&&◌, nat_lt, nat_le, Bool, true, List}
use Rattle.std.specs.List.{list_all}
use Rattle.node_calls.specs.declared.answer.AttesterRow.{AttesterRow}
use Rattle.duty_schedule.specs.declared.rows.Duty.{Duty}
use Rattle.duty_schedule.specs.declared.rows.Duty.TheVariants as duty
use Rattle.duty_plans.specs.Tasks.{duty_of}
use Rattle.duty_plans.specs.declared.task.Task.{Task}

-- the validator has one of the places of its committee, which has at most 2048 (consensus-specs, `MAX_VALIDATORS_PER_COMMITTEE`)
abbrev pub has_place : AttesterRow → Bool
has_place row = nat_lt row.validator_committee_index row.committee_length && nat_le row.committee_length 2048

abbrev pub is_placed : Duty → Bool
is_placed (duty.Vote row) = has_place row
is_placed (duty.Block row) = true

abbrev pub are_placed : List Duty → Bool
are_placed duties = list_all is_placed duties

-- so of what is done of duties
abbrev pub is_placed_task : Task → Bool
is_placed_task t = is_placed (duty_of t)

abbrev pub are_placed_tasks : List Task → Bool
are_placed_tasks tasks = list_all is_placed_task tasks
