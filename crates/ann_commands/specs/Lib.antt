pub mod Checked
pub mod Counts
pub mod Given
pub mod Owed
pub mod Place
pub mod Status
pub mod Words
