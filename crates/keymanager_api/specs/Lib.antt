pub mod Plans
pub mod Readings
pub mod Serving
pub mod Doors
pub mod Handling
pub mod Visits
