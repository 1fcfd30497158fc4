pub mod EndLemmas
pub mod ReplyLemmas
