mod Lines
mod Listed
mod Steps
pub mod Prefixes
pub mod Begins
