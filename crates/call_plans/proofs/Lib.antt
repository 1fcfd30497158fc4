pub mod PlanLemmas
pub mod PathLemmas
pub mod EachLemmas
