pub mod OnTime
pub mod Told
pub mod Merging
