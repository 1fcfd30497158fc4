pub mod LaneLemmas
pub mod DoorLemmas
pub mod OnceLemmas
pub mod ListLemmas
pub mod FinishLemmas
pub mod RunLemmas
pub mod Crosses
