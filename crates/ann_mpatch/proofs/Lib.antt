pub mod Joins
pub mod Listed
pub mod Courses
pub mod Merged
