pub mod Taking
pub mod Opening
pub mod Keeping
pub mod Coming
pub mod Merges
pub mod Starting
