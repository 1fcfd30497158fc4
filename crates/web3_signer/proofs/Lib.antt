pub mod BodyLemmas
pub mod BlankLemmas
pub mod ReadingLemmas
pub mod Web3Lemmas
