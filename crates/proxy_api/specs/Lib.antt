pub mod Routes
pub mod Listing
pub mod Signing
pub mod Attending
pub mod Forms
