pub mod Memory
pub mod Outputs
pub mod Told
