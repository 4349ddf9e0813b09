pub mod Written
pub mod ReadCalls
pub mod FileDemand
