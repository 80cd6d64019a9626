pub mod Behind
pub mod Bounded
pub mod Typed
pub mod Missing
