pub mod Whole
pub mod Views
pub mod Openings
pub mod Merging
pub mod Showing
