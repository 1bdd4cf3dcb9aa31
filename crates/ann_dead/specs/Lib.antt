pub mod Pids
pub mod Digits
pub mod Run
pub mod Dead
