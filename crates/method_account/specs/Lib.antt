pub mod Gives
pub mod Steps
pub mod Account
pub mod Passes
