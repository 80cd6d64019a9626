pub mod Answers
pub mod Codes
pub mod Members
pub mod Expressions
