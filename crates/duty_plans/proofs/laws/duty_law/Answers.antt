use Rattle.duty_plans.proofs.DutyLemmas.{task_own, task_result}
use Rattle.duty_plans.proofs.SlotLemmas.{each_done}
use Rattle.duty_plans.proofs.laws.duty_law.Goals as goal

pub returns-clause-own : goal.returns-clause-own
returns-clause-own c = task_own

pub returns-clause-result : goal.returns-clause-result
returns-clause-result c = task_result

pub returns-clause-each : goal.returns-clause-each
returns-clause-each c = each_done
