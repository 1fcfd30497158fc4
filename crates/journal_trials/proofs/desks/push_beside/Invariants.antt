use Rattle.journal_trials.specs.Replies.{IsHeld}
use Rattle.journal_trials.proofs.desks.push_beside.Given as goal

abbrev pub invariant-loop-words : goal.invariant-loop-words
invariant-loop-words l = IsHeld l.desk.contents l.grant
