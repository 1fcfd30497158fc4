pub mod Web3
pub mod Readings
pub mod Web3Calls
