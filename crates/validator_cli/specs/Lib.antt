pub mod Rehearsing
pub mod Endings
pub mod Clients
pub mod Views
pub mod Runs
