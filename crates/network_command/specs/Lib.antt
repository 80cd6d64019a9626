pub mod Calling
pub mod Ends
pub mod Faults
pub mod Online
pub mod Outcomes
pub mod Resolving
pub mod Serving
