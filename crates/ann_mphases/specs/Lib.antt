pub mod Index
pub mod Pieces
pub mod Read
pub mod Repaired
pub mod Linked
pub mod Left
pub mod Grown
pub mod Planned
