pub mod GatheredLemmas
pub mod ResultLemmas
pub mod TextLemmas
pub mod OrderLemmas
pub mod PlainLemmas
pub mod SpellingLemmas
pub mod BookLemmas
pub mod CleanLemmas
pub mod BackLemmas
pub mod OnceLemmas
pub mod ReadsBackLemmas
pub mod ContentLemmas
pub mod UnitedLemmas
pub mod FileLemmas
mod HaltLemmas
mod KeptLemmas
mod PartsLemmas
