pub mod PassLemmas
pub mod Sums
