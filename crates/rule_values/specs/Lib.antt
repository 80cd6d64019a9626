pub mod Conditions
pub mod Equal
pub mod Meanings
pub mod Parts
pub mod Scenes
