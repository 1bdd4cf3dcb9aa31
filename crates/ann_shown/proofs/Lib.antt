mod Next
pub mod Growing
