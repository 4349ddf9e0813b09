pub mod Amounts
pub mod Folded
