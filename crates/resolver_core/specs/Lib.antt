pub mod Registries
pub mod Words
pub mod Places
pub mod Goals
pub mod Held
pub mod Laws
