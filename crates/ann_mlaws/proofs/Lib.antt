pub mod Pids
pub mod Bare
pub mod Left
pub mod Based
pub mod Linked
pub mod Entry
pub mod Planned
pub mod Merged
