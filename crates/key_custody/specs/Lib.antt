pub mod Statuses
pub mod Keystores
pub mod Replies
pub mod Plans
pub mod Once
