pub mod Rows
pub mod Plan
