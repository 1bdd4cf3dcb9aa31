pub mod Mean
pub mod Base
pub mod Links
pub mod Beside
pub mod Added
pub mod Made
pub mod Scratch
