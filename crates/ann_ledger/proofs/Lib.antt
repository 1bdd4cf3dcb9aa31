pub mod Growing
pub mod Parts
pub mod Updates
pub mod Opens
pub mod Clears
pub mod Ends
