pub mod Aggregates
pub mod Outcomes
pub mod Signing
pub mod Keeping
pub mod Plain
pub mod InMemory
pub mod Objects
pub mod Versions
