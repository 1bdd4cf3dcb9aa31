pub mod Cleared
pub mod Headers
pub mod Listed
pub mod Nodes
pub mod Rules
