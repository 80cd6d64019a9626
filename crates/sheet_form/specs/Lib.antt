pub mod Answers
pub mod Interfaces
pub mod Kept
pub mod Registers
pub mod RulePlaces
pub mod Rules
pub mod Sheets
pub mod Versions
