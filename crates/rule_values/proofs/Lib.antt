pub mod EqualCodes
pub mod Parting
