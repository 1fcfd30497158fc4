pub mod CustodyLemmas
pub mod RestLemmas
pub mod DeleteLemmas
pub mod AgainLemmas
pub mod HoldLemmas
pub mod ImportLemmas
pub mod ImportAgainLemmas
pub mod QuietLemmas
