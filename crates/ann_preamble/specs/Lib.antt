pub mod Base
pub mod Choice
pub mod Preamble
pub mod Reading
pub mod Written
