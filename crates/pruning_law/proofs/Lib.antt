pub mod NewestLemmas
pub mod BookLemmas
pub mod FileLemmas
