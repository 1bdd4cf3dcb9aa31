pub mod Places
pub mod Pool
pub mod Marks
