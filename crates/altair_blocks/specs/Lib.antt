pub mod Containers
pub mod Names
pub mod Blocks
pub mod Versions
pub mod AnyBlocks
