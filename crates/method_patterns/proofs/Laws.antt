pub mod Numbered
pub mod Marked
pub mod Counting
