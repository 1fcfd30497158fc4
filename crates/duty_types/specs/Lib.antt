pub mod Containers
pub mod Names
pub mod Values
