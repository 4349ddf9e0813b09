pub mod Places
pub mod Meaning
pub mod Printed
pub mod Resolving
