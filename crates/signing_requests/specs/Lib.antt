pub mod Members
pub mod Refusals
pub mod Steps
pub mod Objects
pub mod Requests
pub mod Networks
