pub mod Kept
pub mod Core
pub mod Opened
pub mod Made
