pub mod InTurn
pub mod Passed
pub mod Walk
