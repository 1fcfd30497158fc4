pub mod GrantLemmas
pub mod KindLemmas
pub mod WatchLemmas
pub mod WeightLemmas
