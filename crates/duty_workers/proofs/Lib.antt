pub mod PlaceLemmas
pub mod SlotLemmas
pub mod TurnLemmas
pub mod DealLemmas
pub mod GatherLemmas
pub mod WorkLemmas
pub mod RefreshLemmas
