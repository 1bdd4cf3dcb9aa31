pub mod Each
pub mod Filling
pub mod Growing
pub mod Steps
pub mod Once
pub mod Agrees
pub mod Means
