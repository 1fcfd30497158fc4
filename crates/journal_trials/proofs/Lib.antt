pub mod PassLemmas
pub mod ReplyLemmas
