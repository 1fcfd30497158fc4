use Rattle.duty_plans.proofs.DutyLemmas.{again_proposes, cast_proposes}
use Rattle.duty_plans.proofs.LeftLemmas.{task_left}
use Rattle.duty_plans.proofs.laws.repeat_law.Goals as goal

pub returns-clause-same : goal.returns-clause-same
returns-clause-same c = again_proposes

pub returns-clause-cast : goal.returns-clause-cast
returns-clause-cast c = cast_proposes

pub returns-clause-left : goal.returns-clause-left
returns-clause-left c = task_left
