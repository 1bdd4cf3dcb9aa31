pub mod Cut
pub mod Resumed
pub mod Applied
pub mod Removed
pub mod Refusal
