pub mod Shape
pub mod Gone
pub mod Reading
pub mod Judged
