pub mod Kept
pub mod Before
pub mod Lasts
pub mod Ended
pub mod Taken
