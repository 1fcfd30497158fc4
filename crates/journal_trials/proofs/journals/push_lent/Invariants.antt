use Rattle.std.proofs.Common.{length}
use Rattle.journal_trials.proofs.journals.push_lent.Given as goal

abbrev pub decreases-loop-payload : goal.decreases-loop-payload
decreases-loop-payload l = length l.reader
