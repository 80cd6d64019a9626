pub mod Entries
pub mod Levels
pub mod Registers
pub mod Step
pub mod Undoing
