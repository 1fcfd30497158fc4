pub mod Clocks
pub mod InMemory
