pub mod Marks
pub mod Grounds
pub mod Starts
pub mod States
