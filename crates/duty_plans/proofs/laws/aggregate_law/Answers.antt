use Rattle.duty_plans.proofs.AggregateLemmas.{task_goes}
use Rattle.duty_plans.proofs.laws.aggregate_law.Goals as goal

pub returns : goal.returns
returns c = record { goes_on = task_goes }
