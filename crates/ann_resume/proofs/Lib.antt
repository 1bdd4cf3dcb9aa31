pub mod Cutting
pub mod Applying
pub mod Resuming
pub mod Removing
