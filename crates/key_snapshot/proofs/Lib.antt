pub mod CutLemmas
pub mod BatchLemmas
pub mod RestoreLemmas
pub mod TakeLemmas
pub mod WeightLemmas
