pub mod Firsts
pub mod Linked
pub mod Pieces
pub mod TableRows
pub mod Bases
