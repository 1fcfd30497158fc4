pub mod LineLemmas
pub mod ObjectLemmas
pub mod BlockLemmas
pub mod AnswerLemmas
