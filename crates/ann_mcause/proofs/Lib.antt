pub mod Counted
pub mod Loaded
pub mod Patching
pub mod Watched
