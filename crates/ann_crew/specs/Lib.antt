pub mod Members
pub mod Crew
