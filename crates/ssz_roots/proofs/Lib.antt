pub mod TreeLemmas
pub mod PackingLemmas
