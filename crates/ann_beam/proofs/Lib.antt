pub mod Rankings
pub mod Choosing
pub mod Readings
pub mod Rounding
pub mod Beams
pub mod Searches
