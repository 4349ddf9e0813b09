pub mod Filling
pub mod Most
pub mod Signs
