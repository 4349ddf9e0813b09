pub mod Keeping
pub mod Lapsing
