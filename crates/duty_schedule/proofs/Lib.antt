pub mod OrderLemmas
pub mod HeldLemmas
pub mod HoldingLemmas
pub mod StandLemmas
pub mod LawLemmas
