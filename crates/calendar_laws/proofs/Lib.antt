pub mod Years
pub mod Months
pub mod Days
pub mod Order
pub mod Search
pub mod Tenths
