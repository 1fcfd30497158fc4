pub mod WalkLemmas
mod KindLemmas
