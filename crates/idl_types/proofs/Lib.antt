pub mod Places
pub mod Nested
pub mod Takes
pub mod Closes
pub mod Readings
