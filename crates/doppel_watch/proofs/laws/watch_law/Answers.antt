use Rattle.doppel_watch.proofs.StateLemmas.{state_allowed, state_first, state_second, state_not_over, state_not_watched}
use Rattle.doppel_watch.proofs.laws.watch_law.Goals as goal

pub returns-clause-allowed : goal.returns-clause-allowed
returns-clause-allowed c = state_allowed

pub returns-clause-first_live : goal.returns-clause-first_live
returns-clause-first_live c = state_first

pub returns-clause-second_live : goal.returns-clause-second_live
returns-clause-second_live c = state_second

pub returns-clause-not_over : goal.returns-clause-not_over
returns-clause-not_over c = state_not_over

pub returns-clause-not_watched : goal.returns-clause-not_watched
returns-clause-not_watched c = state_not_watched
