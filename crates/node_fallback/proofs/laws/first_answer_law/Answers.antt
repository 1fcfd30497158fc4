use Rattle.node_fallback.proofs.FirstLemmas.{first_answer, no_answer}
use Rattle.node_fallback.proofs.laws.first_answer_law.Goals as goal

pub returns-clause-answer : goal.returns-clause-answer
returns-clause-answer g c = first_answer

pub returns-clause-none : goal.returns-clause-none
returns-clause-none g c = no_answer
