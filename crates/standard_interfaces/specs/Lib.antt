pub mod Definitions
pub mod Readings
pub mod Laws
