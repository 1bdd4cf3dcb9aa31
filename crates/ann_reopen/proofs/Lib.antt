pub mod Knowing
pub mod Verdicts
