pub mod Texts
pub mod Sinks
pub mod Works
