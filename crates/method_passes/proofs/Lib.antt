pub mod Scan
pub mod Offered
pub mod Arrays
pub mod Pairing
pub mod Lining
pub mod Stages
pub mod Passed
