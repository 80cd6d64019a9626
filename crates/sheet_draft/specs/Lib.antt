pub mod Answers
pub mod Rules
pub mod Outlines
pub mod Sheets
pub mod Places
