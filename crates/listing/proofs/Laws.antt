pub mod Laid
pub mod Digits
pub mod Codes
pub mod Parts
pub mod Rows
pub mod Listing
pub mod Most
