pub mod PieceLemmas
pub mod WholeLemmas
pub mod OpeningLemmas
pub mod MergeLemmas
pub mod ShowLemmas
