pub mod FieldLemmas
pub mod AnyLemmas
