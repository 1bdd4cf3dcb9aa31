pub mod Keeps
pub mod Retired
pub mod Ends
