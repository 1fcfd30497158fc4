use Rattle.std.proofs.Common.{◌≡◌, ◌++◌, drop}
use Rattle.duty_plans.specs.Votes.{vote_tasks}
use Rattle.duty_plans.proofs.votes.vote_tasks.Given as goal

abbrev pub invariant-votes : goal.invariant-votes
invariant-votes l = l.tasks.items ++ vote_tasks (drop l.i l.votes) (drop l.i l.asked) ≡ vote_tasks l.votes l.asked
