pub mod StepLemmas
pub mod SourceLemmas
pub mod InsertLemmas
