pub mod Unnamed
