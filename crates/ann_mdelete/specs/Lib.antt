pub mod Decoded
pub mod Lists
pub mod Loaded
pub mod Phase
pub mod Refusals
pub mod Rows
