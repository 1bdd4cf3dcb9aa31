pub mod Writes
pub mod Spelled
pub mod Fronts
pub mod Placed
pub mod Entries
