pub mod Requests
pub mod Said
pub mod Readings
pub mod Calls
