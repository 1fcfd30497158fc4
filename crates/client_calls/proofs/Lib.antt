pub mod SeatLemmas
pub mod AskLemmas
pub mod QuietLemmas
pub mod MachineLemmas
