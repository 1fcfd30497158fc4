pub mod Quiet
pub mod Placed
pub mod Found
