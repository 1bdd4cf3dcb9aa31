pub mod Commands
pub mod Live
pub mod Searching
pub mod Sessions
pub mod Transcribing
pub mod Zeros
