pub mod Crosses
pub mod TurnLemmas
pub mod PlaceLemmas
pub mod SpanLemmas
