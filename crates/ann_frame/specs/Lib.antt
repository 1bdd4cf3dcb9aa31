pub mod Frames
pub mod Text
pub mod Found
pub mod TextOf
