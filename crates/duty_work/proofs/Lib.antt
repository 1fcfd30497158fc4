pub mod HouseLemmas
pub mod TurnLemmas
pub mod RunLemmas
pub mod PlacedLemmas
pub mod PruneLemmas
pub mod VoteLemmas
pub mod MessageLemmas
