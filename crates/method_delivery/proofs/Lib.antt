pub mod Laws
pub mod Book
pub mod Taken
pub mod Limits
