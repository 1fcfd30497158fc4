pub mod Signed
pub mod Votes
pub mod Operations
pub mod Blocks
pub mod Lists
