pub mod Lists
pub mod Node
pub mod Table
