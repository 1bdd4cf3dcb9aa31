pub mod Account
pub mod Entered
pub mod Steps
