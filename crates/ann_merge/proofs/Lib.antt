pub mod Gathered
pub mod Pids
pub mod Planned
pub mod Eyes
pub mod Numbers
pub mod Merged
pub mod Attempts
pub mod Sound
