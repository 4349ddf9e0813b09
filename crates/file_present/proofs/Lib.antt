pub mod Events
pub mod Walking
