pub mod ClosingLemmas
mod LimitLines
