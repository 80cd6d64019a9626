pub mod Ends
pub mod Faults
pub mod Hosting
pub mod Resolving
