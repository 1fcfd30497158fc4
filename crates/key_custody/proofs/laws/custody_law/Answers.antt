use Rattle.call_plans.proofs.PlanLemmas.{determined}
use Rattle.client_calls.specs.Steps.{Fits}
use Rattle.key_custody.specs.Plans.{deletion_plan, import_plan, list_plan}
use Rattle.key_custody.proofs.laws.custody_law.Goals as goal

pub returns-clause-imports : goal.returns-clause-imports
returns-clause-imports c = λ file now keystores. determined Fits (import_plan file now keystores)

pub returns-clause-deletes : goal.returns-clause-deletes
returns-clause-deletes c = λ keys. determined Fits (deletion_plan keys)

pub returns-clause-lists : goal.returns-clause-lists
returns-clause-lists c = determined Fits list_plan
