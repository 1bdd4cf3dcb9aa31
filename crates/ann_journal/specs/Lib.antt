pub mod Journal
pub mod Logged
pub mod Safe
pub mod Updated
