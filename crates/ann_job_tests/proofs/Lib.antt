pub mod AllPids
pub mod Ended
