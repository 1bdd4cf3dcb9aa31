pub mod Agreed
pub mod Again
pub mod Grammar
pub mod Within
