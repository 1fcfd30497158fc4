pub mod Forks
pub mod Options
pub mod Serving
pub mod Proxying
pub mod Plans
