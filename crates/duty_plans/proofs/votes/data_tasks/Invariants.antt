use Rattle.std.proofs.Common.{◌≡◌, ◌++◌, drop}
use Rattle.std.specs.Prelude.{filter}
use Rattle.duty_plans.specs.Votes.{data_tasks}
use Rattle.duty_plans.proofs.VoteLemmas.{is_new}
use Rattle.duty_plans.proofs.votes.data_tasks.Given as goal

abbrev pub invariant-votes : goal.invariant-votes
invariant-votes l = l.tasks.items ++ filter (is_new l.tasks.items) (data_tasks (drop l.duty-index l.votes)) ≡ data_tasks l.votes
