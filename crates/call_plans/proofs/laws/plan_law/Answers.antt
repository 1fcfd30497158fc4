use Rattle.call_plans.specs.Plans.{Any}
use Rattle.call_plans.proofs.PlanLemmas.{determined}
use Rattle.call_plans.proofs.laws.plan_law.Goals as goal

pub returns : goal.returns
returns g c = record { determined = λ p. determined Any p }
