use Rattle.key_snapshot.proofs.RestoreLemmas.{added_stands, brought_back, named_alone, nothing_else, states_alone}
use Rattle.key_snapshot.proofs.laws.restoring_law.Goals as goal

pub returns-clause-named : goal.returns-clause-named
returns-clause-named c = named_alone

pub returns-clause-brought_back : goal.returns-clause-brought_back
returns-clause-brought_back c = brought_back

pub returns-clause-nothing_else : goal.returns-clause-nothing_else
returns-clause-nothing_else c = nothing_else

pub returns-clause-states : goal.returns-clause-states
returns-clause-states c = states_alone

pub returns-clause-stands : goal.returns-clause-stands
returns-clause-stands c = λ items keys states key state parts past stand new stands. added_stands items keys states stand key state parts past new stands
