pub mod Ledger
pub mod Opening
pub mod Merging
pub mod Clearing
