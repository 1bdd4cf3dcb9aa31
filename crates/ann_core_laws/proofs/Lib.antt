pub mod Logged
pub mod Segments
pub mod Pieces
pub mod Appended
pub mod Kept
pub mod Replies
