pub mod Giving
pub mod Columns
