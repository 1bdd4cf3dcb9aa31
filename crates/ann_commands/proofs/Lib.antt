pub mod Checks
pub mod Counts
pub mod Ends
pub mod Eyes
pub mod InitWords
pub mod Paying
pub mod Sound
