pub mod StepLemmas
pub mod AggregateLemmas
