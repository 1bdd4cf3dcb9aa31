pub mod Entering
pub mod Leading
