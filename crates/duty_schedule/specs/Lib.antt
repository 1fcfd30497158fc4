pub mod Answers
pub mod Holding
pub mod Standing
pub mod Due
pub mod Law
pub mod Checking
pub mod Aggregators
