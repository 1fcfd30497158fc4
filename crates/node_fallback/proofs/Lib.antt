pub mod SeenLemmas
pub mod TurnLemmas
pub mod OrderLemmas
pub mod RefreshLemmas
pub mod FirstLemmas
