pub mod Pooled
pub mod Pooling
