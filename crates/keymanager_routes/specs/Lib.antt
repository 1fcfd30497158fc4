pub mod Routes
pub mod Bearers
pub mod Replies
pub mod Members
pub mod Refusals
pub mod Stops
pub mod Checks
