pub mod Margins
pub mod Delivery
pub mod Most
