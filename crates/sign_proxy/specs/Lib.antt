pub mod Replies
pub mod Kinds
pub mod Plans
pub mod Signing
