pub mod Refusal
pub mod List
pub mod Merged
pub mod Start
pub mod State
