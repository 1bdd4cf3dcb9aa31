pub mod Directory
pub mod Text
pub mod Segment
pub mod Writer
pub mod Opening
pub mod Holds
pub mod Rows
