-- How the votes of a slot are cast: nodes are asked what each committee is to vote, and each vote is cast on what a node said.
use Rattle.std.specs.Prelude.{ℕ, ◌==◌, not, Bool, false, true, if◌then◌else◌, List, [], ◌∷◌, ◌++◌, filter, filter_map, map, drop, position, is_none, Option, Some, None}
use Rattle.std.specs.List.{list_any}
use Rattle.edge_kit.specs.declared.bytes.PubKey.{PubKey}
use Rattle.slash_defs.specs.declared.message.Message.{Message}
use Rattle.sign_roots.specs.declared.domains.Domains.{Domains}
use Rattle.node_calls.specs.declared.answer.AttesterRow.{AttesterRow}
use Rattle.duty_schedule.specs.Checking.{data_members, first_that_differs}
use Rattle.duty_schedule.specs.declared.rows.Duty.{Duty}
use Rattle.duty_schedule.specs.declared.rows.Duty.TheVariants as duty
use Rattle.duty_plans.specs.declared.ended.Aggregation.{Aggregation}
use Rattle.duty_plans.specs.declared.ended.Aggregation.TheVariants as votes
use Rattle.duty_plans.specs.declared.ended.Ended.{Ended}
use Rattle.duty_plans.specs.declared.task.Task.{Task}
use Rattle.duty_plans.specs.declared.task.Task.TheVariants as task
use Rattle.duty_plans.specs.declared.result.DutyResult.TheVariants as ended
use Rattle.duty_plans.specs.Choices.{ends_after}
use Rattle.duty_plans.specs.Ends.{over}
use Rattle.duty_plans.specs.Messages.{vote_message}
use Rattle.duty_plans.specs.Tasks.{tasks_by}

-- ---- tasks

-- whether this is the question for what the committee of that vote is to vote, where both are of one slot
abbrev pub asks_for : AttesterRow → Task → Bool
asks_for row (task.Data asked) = asked.committee_index == row.committee_index
asks_for row t = false

-- what the committees of these votes of one slot are to vote: one question for each committee, that of its first vote
abbrev pub data_tasks : List Duty → List Task
data_tasks [] = []
data_tasks (duty.Block row ∷ ds) = data_tasks ds
data_tasks (duty.Vote row ∷ ds) = task.Data row ∷ filter (λ t. not (asks_for row t)) (data_tasks ds)

-- these questions, and that for what the committee of this vote is to vote, where it is not among them
abbrev pub with_question : List Task → Duty → List Task
with_question tasks (duty.Vote row) = if list_any (asks_for row) tasks then tasks else tasks ++ task.Data row ∷ []
with_question tasks (duty.Block row) = tasks

-- the vote for the data that a node said, if one did
abbrev pub vote_by : Duty → Option Aggregation → List Task
vote_by (duty.Vote row) (Some (votes.Voted details)) = task.Vote row details ∷ []
vote_by d o = []

abbrev pub vote_task : Duty → Ended → List Task
vote_task d e = vote_by d e.aggregation

-- the votes for the data that nodes said, where these are the votes' answers (`vote_answers`)
abbrev pub vote_tasks : List Duty → List Ended → List Task
vote_tasks ds ends = tasks_by vote_task ds ends

-- ---- what the ends of the questions are for each vote

-- whether no member of what a node said, if one did, differs from what this vote's duty is to vote
abbrev pub is_own : AttesterRow → Option Aggregation → Bool
is_own row (Some (votes.Voted details)) = is_none (first_that_differs (data_members row details))
is_own row o = true

-- a vote's answer, where the ends from that of its committee's question on are these: that end, but where its data is not the vote's own; that there
-- is none comes never
abbrev pub answer_by : AttesterRow → List Ended → Ended
answer_by row [] = over ended.NoData
answer_by row (e ∷ ends) = if is_own row e.aggregation then e else over ended.DataDiffers

abbrev pub answer_at : AttesterRow → List Ended → Option ℕ → Ended
answer_at row ends None = over ended.NoData
answer_at row ends (Some i) = answer_by row (drop i ends)

-- the same where these questions ended so; a block has no question
abbrev pub answer_of : List Task → List Ended → Duty → Ended
answer_of tasks ends (duty.Vote row) = answer_at row ends (position (asks_for row) tasks)
answer_of tasks ends (duty.Block row) = over ended.NoData

-- the answers of these votes, where their questions ended so
abbrev pub vote_answers : List Duty → List Ended → List Ended
vote_answers ds ends = map (answer_of (data_tasks ds) ends) ds

-- ---- messages

-- the message of a vote, with its key
abbrev pub message_of : Domains → Task → Option (PubKey × Message)
message_of domains (task.Vote row details) = Some (row.pubkey, vote_message domains details)
message_of domains t = None

abbrev pub messages_of : Domains → List Task → List (PubKey × Message)
messages_of domains tasks = filter_map (message_of domains) tasks

-- ---- ends, where these are the ends of the votes that were cast from its own on

-- a vote with this answer ended as it was cast, where the answer has data to vote for; else it ended as the answer says; that a vote was cast and has
-- no end comes never
abbrev pub end_by : Option Aggregation → Ended → List Ended → Ended
end_by None asked ends = asked
end_by (Some x) asked [] = asked
end_by (Some x) asked (e ∷ ends) = e

-- one for each of these answers
abbrev pub vote_ends : List Ended → List Ended → List Ended
vote_ends [] ends = []
vote_ends (asked ∷ more) ends = end_by asked.aggregation asked ends ∷ vote_ends more (ends_after asked.aggregation ends)
