pub mod Cuts
pub mod Snapshots
pub mod Taking
pub mod Restoring
pub mod Weights
