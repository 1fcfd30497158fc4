pub mod Items
pub mod Watches
pub mod Batches
pub mod Replaying
pub mod Pruning
pub mod Gathering
