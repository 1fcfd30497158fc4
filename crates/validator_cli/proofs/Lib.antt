pub mod SessionLemmas
pub mod EndingLemmas
pub mod RunLemmas
