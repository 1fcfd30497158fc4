pub mod Members
pub mod Steps
pub mod Blocks
pub mod WholeBlocks
pub mod Requests
pub mod Causes
pub mod Answers
