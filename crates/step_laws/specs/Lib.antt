pub mod Fits
pub mod Given
pub mod Kinds
pub mod Laws
pub mod Ready
