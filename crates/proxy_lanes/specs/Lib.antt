pub mod Lanes
pub mod Seating
