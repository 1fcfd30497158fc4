pub mod Aggregation
pub mod Asking
pub mod Fitting
pub mod InMemory
