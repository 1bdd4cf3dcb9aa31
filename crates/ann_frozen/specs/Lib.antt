pub mod Frozen
pub mod Packed
