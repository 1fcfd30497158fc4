pub mod Missing
pub mod Asked
pub mod Noting
pub mod Shortening
pub mod Guarding
pub mod Ends
