pub mod JsonTexts
pub mod LastDots
pub mod NameSets
pub mod Rests
