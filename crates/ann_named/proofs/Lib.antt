pub mod Entries
pub mod Current
pub mod LastEnd
pub mod Numbers
pub mod Frames
