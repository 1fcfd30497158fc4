pub mod Members
pub mod Asking
pub mod Bodies
