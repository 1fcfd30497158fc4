use Rattle.key_custody.proofs.AgainLemmas.{deletes_once}
use Rattle.key_custody.proofs.ImportAgainLemmas.{imports_once}
use Rattle.key_custody.proofs.HoldLemmas.{whole_from_empty}
use Rattle.key_custody.proofs.laws.once_law.Goals as goal

pub returns-clause-imports : goal.returns-clause-imports
returns-clause-imports c = imports_once

pub returns-clause-deletes : goal.returns-clause-deletes
returns-clause-deletes c = deletes_once

pub returns-clause-whole : goal.returns-clause-whole
returns-clause-whole c = whole_from_empty
