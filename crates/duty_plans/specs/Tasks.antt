-- What is done of duties: all of each, or what was granted and not sent once more.
use Rattle.std.specs.Prelude.{◌≡◌, ℕ, true, List, [], ◌∷◌, ◌++◌, map, Option, Some, None}
use Rattle.edge_kit.specs.declared.bytes.PubKey.{PubKey}
use Rattle.slash_defs.specs.declared.message.Message.{Message}
use Rattle.sign_roots.specs.declared.domains.Domains.{Domains}
use Rattle.duty_schedule.specs.Aggregators.{is_aggregator}
use Rattle.duty_schedule.specs.Checking.{block_members, data_members, first_that_differs}
use Rattle.duty_schedule.specs.declared.rows.Duty.{Duty}
use Rattle.duty_schedule.specs.declared.rows.Duty.TheVariants as duty
use Rattle.duty_plans.specs.declared.ended.Ended.{Ended}
use Rattle.duty_plans.specs.declared.ended.Unsent.{Unsent}
use Rattle.duty_plans.specs.declared.ended.Unsent.TheVariants as granted
use Rattle.duty_plans.specs.declared.task.Task.{Task}
use Rattle.duty_plans.specs.declared.task.Task.TheVariants as task
use Rattle.duty_plans.specs.Messages.{block_message, vote_message}

abbrev pub fresh : List Duty → List Task
fresh duties = map (λ d. task.Fresh d) duties

abbrev pub again_by : Duty → Option Unsent → List Task
again_by d None = []
again_by d (Some unsent) = task.Again d unsent ∷ []

abbrev pub again_of : Duty → Ended → List Task
again_of d e = again_by d e.unsent

-- what follows of each of these, which ended so
abbrev pub tasks_by : {A : Type 0} → (A → Ended → List Task) → List A → List Ended → List Task
tasks_by next [] ends = []
tasks_by next (x ∷ xs) [] = []
tasks_by next (x ∷ xs) (e ∷ ends) = next x e ++ tasks_by next xs ends

-- what is left of these duties, which ended so
abbrev pub again_tasks : List Duty → List Ended → List Task
again_tasks ds ends = tasks_by again_of ds ends

-- whose it is
abbrev pub duty_of : Task → Duty
duty_of (task.Fresh d) = d
duty_of (task.Again d unsent) = d
duty_of (task.Data row) = duty.Vote row
duty_of (task.Vote row details) = duty.Vote row
duty_of (task.Choose row details) = duty.Vote row
duty_of (task.Aggregate row details proof) = duty.Vote row

abbrev pub owner_of : Duty → PubKey
owner_of (duty.Block row) = row.pubkey
owner_of (duty.Vote row) = row.pubkey

-- the message of what was granted; a reveal is none
abbrev pub unsent_message : Domains → Unsent → Option Message
unsent_message domains granted.Reveal = None
unsent_message domains (granted.Vote details) = Some (vote_message domains details)
unsent_message domains (granted.Block block) = Some (block_message domains block)

-- what was granted for a duty is the duty's; blocks are Altair's from this epoch on, or never
abbrev pub IsOwnUnsent : Option ℕ → Duty → Unsent → Type 0
IsOwnUnsent altair (duty.Block row) granted.Reveal = Unit {0}
IsOwnUnsent altair (duty.Vote row) (granted.Vote details) = first_that_differs (data_members row details) ≡ None
IsOwnUnsent altair (duty.Block row) (granted.Block block) = first_that_differs (block_members row.slot altair block) ≡ None
IsOwnUnsent altair d unsent = ⊥

abbrev pub IsOwnTask : Option ℕ → Task → Type 0
IsOwnTask altair (task.Fresh d) = Unit {0}
IsOwnTask altair (task.Again d unsent) = IsOwnUnsent altair d unsent
IsOwnTask altair (task.Data row) = Unit {0}
IsOwnTask altair (task.Vote row details) = first_that_differs (data_members row details) ≡ None
IsOwnTask altair (task.Choose row details) = first_that_differs (data_members row details) ≡ None
IsOwnTask altair (task.Aggregate row details proof) = (first_that_differs (data_members row details) ≡ None) × (is_aggregator proof row.committee_length ≡ true)
