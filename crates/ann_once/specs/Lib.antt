pub mod Book
pub mod Once
pub mod Live
pub mod Session
