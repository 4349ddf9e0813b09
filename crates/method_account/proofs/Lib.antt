pub mod Laws
pub mod Taking
pub mod Handed
