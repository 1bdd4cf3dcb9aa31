pub mod Numbers
pub mod Fields
pub mod Joined
pub mod Numbered
