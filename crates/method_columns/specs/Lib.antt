pub mod Failing
pub mod Whole
