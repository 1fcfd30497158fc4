use Rattle.session_run.proofs.RetryLemmas.{deletes_once, imports_once}
use Rattle.session_run.proofs.laws.retry_law.Goals as goal

pub returns-clause-deletes : goal.returns-clause-deletes
returns-clause-deletes c = deletes_once

pub returns-clause-imports : goal.returns-clause-imports
returns-clause-imports c = imports_once
