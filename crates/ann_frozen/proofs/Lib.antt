mod Rows
pub mod Same
