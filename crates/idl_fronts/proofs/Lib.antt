pub mod Beginnings
pub mod Wholes
pub mod Leads
pub mod Passes
pub mod Members
pub mod Completion
