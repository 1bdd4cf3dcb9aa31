pub mod History
pub mod Steps
