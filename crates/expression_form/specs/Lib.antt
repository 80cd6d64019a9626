pub mod Expressions
pub mod Forms
pub mod Laws
pub mod Places
pub mod References
