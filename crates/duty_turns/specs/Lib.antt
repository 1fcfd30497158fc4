pub mod Times
pub mod Lines
pub mod Standing
pub mod Lanes
pub mod Recording
pub mod TurnSteps
pub mod Turns
