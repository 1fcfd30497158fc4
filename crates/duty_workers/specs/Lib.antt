pub mod Places
pub mod Posts
pub mod Working
pub mod Shares
