pub mod CoverLemmas
pub mod AmongLemmas
pub mod SafeLemmas
pub mod KeepLemmas
pub mod AskedLemmas
pub mod TurnLemmas
pub mod ToldLemmas
pub mod MergeLemmas
