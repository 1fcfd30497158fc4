pub mod RunLemmas
pub mod ServeLemmas
pub mod ReadingLemmas
pub mod VisitLemmas
