pub mod Laws
pub mod Blank
