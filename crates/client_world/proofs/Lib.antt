pub mod LaneLemmas
pub mod SignedLemmas
pub mod ProxyLemmas
pub mod ProxyRunLemmas
pub mod LifeLemmas
pub mod LivesOn
