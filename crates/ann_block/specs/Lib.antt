pub mod Block
pub mod Header
pub mod Node
