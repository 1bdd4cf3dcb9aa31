pub mod Makings
pub mod Readings
