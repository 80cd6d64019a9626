pub mod Fronts
pub mod Opened
pub mod Rests
pub mod Soles
