pub mod Bases
pub mod Keeping
pub mod Frames
pub mod Updating
