pub mod Reading
pub mod ReadDemand
