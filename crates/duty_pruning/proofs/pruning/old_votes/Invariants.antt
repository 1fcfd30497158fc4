use Rattle.std.proofs.Common.{◌≡◌, ◌≤◌, length, take}
use Rattle.std.specs.List.{filter}
use Rattle.duty_pruning.specs.Pruning.{is_old_vote}
use Rattle.duty_pruning.proofs.pruning.old_votes.Given as goal

abbrev pub invariant-loop-entry : goal.invariant-loop-entry
invariant-loop-entry l = (l.old ≡ length (filter (is_old_vote l.from) (take l.entry-index l.votes))) × (l.old ≤ l.entry-index)
