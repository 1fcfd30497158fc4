use Rattle.session_run.proofs.DurableLemmas.{granted, stays, images}
use Rattle.session_run.proofs.laws.durable_law.Goals as goal

pub returns-clause-granted : goal.returns-clause-granted
returns-clause-granted c = granted

pub returns-clause-stays : goal.returns-clause-stays
returns-clause-stays c = stays

pub returns-clause-images : goal.returns-clause-images
returns-clause-images c = images
