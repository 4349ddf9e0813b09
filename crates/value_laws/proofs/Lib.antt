pub mod Rules
pub mod Rounding
pub mod Value
pub mod Before
