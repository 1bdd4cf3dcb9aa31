pub mod Drawing
pub mod Sorting
pub mod Pairs
pub mod Joining
