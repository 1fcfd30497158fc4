pub mod Seen
pub mod InOrder
pub mod Refreshing
pub mod Turns
pub mod Twins
pub mod FirstAnswer
pub mod Texts
