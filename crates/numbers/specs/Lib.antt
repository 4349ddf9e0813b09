pub mod Whole
pub mod Lists
pub mod Sums
pub mod Bytes
pub mod Little
pub mod Text
