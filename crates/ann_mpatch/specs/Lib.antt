pub mod Joined
pub mod Source
pub mod Plan
pub mod Patched
pub mod Phase
