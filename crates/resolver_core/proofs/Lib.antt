pub mod AtDots
pub mod Reading
pub mod Listed
pub mod DotLaws
pub mod Lasts
