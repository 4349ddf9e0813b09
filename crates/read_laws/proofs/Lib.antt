pub mod Written
pub mod Steps
pub mod Read
pub mod Along
pub mod Calls
pub mod Demand
pub mod OldBoxes
