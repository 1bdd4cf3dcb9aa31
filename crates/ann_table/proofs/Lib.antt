pub mod Filled
pub mod Listed
pub mod Nodes
pub mod Settled
pub mod Sound
pub mod Tables
pub mod Graphs
