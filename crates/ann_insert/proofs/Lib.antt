pub mod Settling
pub mod Keeping
pub mod Changed
pub mod Putting
pub mod Pids
