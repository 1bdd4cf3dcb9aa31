pub mod State
pub mod Events
pub mod Facts
