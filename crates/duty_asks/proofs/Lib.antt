pub mod QuietLemmas
pub mod TakeLemmas
pub mod PlaceLemmas
pub mod IndexLemmas
