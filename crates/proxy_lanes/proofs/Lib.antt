mod ViewLemmas
pub mod LedLemmas
mod LaneLemmas
mod PassLemmas
