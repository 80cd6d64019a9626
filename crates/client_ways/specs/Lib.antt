pub mod Unresolved
pub mod Ways
