pub mod Gathered
pub mod Job
