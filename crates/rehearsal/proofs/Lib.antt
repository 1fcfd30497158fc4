pub mod GoLemmas
pub mod OpenLemmas
pub mod WorldLemmas
pub mod CastLemmas
pub mod LawLemmas
pub mod StageLemmas
