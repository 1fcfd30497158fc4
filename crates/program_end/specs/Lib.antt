pub mod Closing
pub mod Codes
pub mod Endings
pub mod Limits
