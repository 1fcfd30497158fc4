pub mod Reasons
pub mod Questions
pub mod Earned
