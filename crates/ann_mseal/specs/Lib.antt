pub mod Merged
pub mod Pieces
pub mod Written
pub mod Ends
