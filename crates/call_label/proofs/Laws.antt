pub mod Digits
pub mod Rows
pub mod Label
pub mod Cut
