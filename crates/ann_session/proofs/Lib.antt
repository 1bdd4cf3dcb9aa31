pub mod Updates
pub mod Fills
pub mod Causes
pub mod Lines
pub mod Scripts
