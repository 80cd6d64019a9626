pub mod Conditions
pub mod Gives
pub mod Outcomes
pub mod Rules
pub mod Settings
pub mod Steps
pub mod Types
pub mod Views
