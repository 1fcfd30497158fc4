pub mod Houses
pub mod Known
