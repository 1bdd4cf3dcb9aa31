pub mod Codebook
pub mod Format
pub mod Tabled
pub mod Tables
pub mod Turned
