pub mod Items
pub mod Headed
pub mod Windows
pub mod Steps
pub mod Refusals
pub mod Texts
pub mod Writings
pub mod Ends
