pub mod LineEnds
pub mod TokenReplaced
pub mod TokenSearch
