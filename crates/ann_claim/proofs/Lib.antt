pub mod Drawn
pub mod Totals
pub mod Steps
pub mod Claimers
