pub mod Causes
pub mod Eyes
