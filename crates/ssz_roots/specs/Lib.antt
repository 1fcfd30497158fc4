pub mod Trees
pub mod Packing
pub mod PackingLaws
pub mod Zeros
