pub mod TellingLemmas
pub mod StateLemmas
pub mod KeptLemmas
