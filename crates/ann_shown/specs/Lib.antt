pub mod States
pub mod Rising
pub mod Publishing
pub mod Unnamed
