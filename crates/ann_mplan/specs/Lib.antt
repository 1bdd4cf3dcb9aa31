pub mod Back
pub mod Old
pub mod Packing
