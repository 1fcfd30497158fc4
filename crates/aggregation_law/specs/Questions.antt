-- Which questions for what committees are to vote go together, no two of one committee, and which votes, no two of one validator.
use Rattle.std.specs.Prelude.{◌≢◌}
use Rattle.duty_schedule.specs.declared.rows.Duty.{Duty}
use Rattle.duty_schedule.specs.declared.rows.Duty.TheVariants as duty
use Rattle.duty_plans.specs.declared.task.Task.{Task}
use Rattle.duty_plans.specs.declared.task.Task.TheVariants as task

-- these are not two questions of one committee
abbrev pub AreApart : Task → Task → Type 0
AreApart (task.Data a) (task.Data b) = a.committee_index ≢ b.committee_index
AreApart t u = Unit {0}

-- these are not two votes of one validator
abbrev pub AreTwo : Duty → Duty → Type 0
AreTwo (duty.Vote a) (duty.Vote b) = a.pubkey ≢ b.pubkey
AreTwo d e = Unit {0}

-- nor do these cast two
abbrev pub AreOfTwo : Task → Task → Type 0
AreOfTwo (task.Vote a details) (task.Vote b others) = a.pubkey ≢ b.pubkey
AreOfTwo t u = Unit {0}
