pub mod Adding
pub mod Laws
pub mod Fronts
