pub mod PlacesLemmas
pub mod Orders
pub mod Each
pub mod Marked
