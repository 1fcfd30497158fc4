pub mod Domains
pub mod SigningRoots
