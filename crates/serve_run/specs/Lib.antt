pub mod Clients
pub mod Equipping
pub mod Serving
pub mod Seating
pub mod Ends
pub mod Views
pub mod Starting
