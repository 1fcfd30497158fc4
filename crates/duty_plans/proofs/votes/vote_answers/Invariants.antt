use Rattle.std.proofs.Common.{◌≡◌, take}
use Rattle.std.specs.Prelude.{map}
use Rattle.duty_plans.specs.Votes.{answer_of}
use Rattle.duty_plans.proofs.votes.vote_answers.Given as goal

abbrev pub invariant-votes : goal.invariant-votes
invariant-votes l = l.answers.items ≡ map (answer_of l.tasks l.ended) (take l.duty-index l.votes)
