pub mod Road
pub mod Grid
