pub mod Stock
pub mod Tools
pub mod Cleared
