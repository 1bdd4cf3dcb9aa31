pub mod Owned
pub mod Seen
pub mod Table
pub mod Said
pub mod Knowing
pub mod Alone
