pub mod Answers
pub mod Conditions
pub mod Floats
pub mod Laws
pub mod Misses
pub mod Outcomes
pub mod Rules
pub mod Steps
