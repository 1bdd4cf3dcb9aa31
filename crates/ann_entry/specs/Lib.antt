pub mod EntryBytes
pub mod Standing
pub mod Kinds
