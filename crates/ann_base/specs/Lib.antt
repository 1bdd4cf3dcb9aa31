pub mod Refusal
pub mod Causes
pub mod Faults
pub mod Front
pub mod Nodes
pub mod Tagged
pub mod Grounded
