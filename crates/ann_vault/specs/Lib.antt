pub mod Counted
pub mod Drafts
pub mod Held
pub mod Seal
pub mod Shelf
pub mod Memory
pub mod MemoryEye
pub mod Reads
