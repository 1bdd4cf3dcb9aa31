pub mod Back
pub mod Scratch
