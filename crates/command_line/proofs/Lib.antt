pub mod UniformLemmas
pub mod PlanLemmas
pub mod ServingLemmas
