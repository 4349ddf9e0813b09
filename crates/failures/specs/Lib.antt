pub mod Meant
pub mod Prints
