use Rattle.doppel_watch.proofs.KeptLemmas.{same_decides, kept_few, kept_enough, kept_later}
use Rattle.doppel_watch.proofs.laws.kept_law.Goals as goal

pub returns-clause-same : goal.returns-clause-same
returns-clause-same c = λ s ts. (kept_enough s ts).state

pub returns-clause-same_later : goal.returns-clause-same_later
returns-clause-same_later c = λ s ts later t late. (kept_later s ts later t late).state

pub returns-clause-again : goal.returns-clause-again
returns-clause-again c = λ s ts. (kept_enough s ts).again

pub returns-clause-again_later : goal.returns-clause-again_later
returns-clause-again_later c = λ s ts later t late. (kept_later s ts later t late).same

pub returns-clause-few : goal.returns-clause-few
returns-clause-few c = kept_few

pub returns-clause-decides : goal.returns-clause-decides
returns-clause-decides c = same_decides
