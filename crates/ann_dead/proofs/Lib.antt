pub mod Sets
pub mod Digits
pub mod Merges
pub mod Searches
pub mod Runs
pub mod Removals
