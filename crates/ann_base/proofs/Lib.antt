pub mod Results
pub mod Fronts
pub mod Tagging
pub mod Reading
pub mod Grounding
pub mod Based
