use Rattle.std.proofs.Common.{◌≡◌, ◌≤◌, ◌++◌, drop}
use Rattle.duty_plans.specs.Votes.{vote_ends}
use Rattle.duty_plans.proofs.votes.vote_ends.Given as goal

abbrev pub invariant-asked : goal.invariant-asked
invariant-asked l = record {
  within : l.at ≤ l.one-index;
  so_far : l.ends.items ++ vote_ends (drop l.one-index l.asked) (drop l.at l.cast) ≡ vote_ends l.asked l.cast;
}
