pub mod CharacterLemmas
pub mod KeystoreLemmas
pub mod ListLemmas
pub mod PlainLemmas
