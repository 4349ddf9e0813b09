pub mod Fullest
pub mod Shown
