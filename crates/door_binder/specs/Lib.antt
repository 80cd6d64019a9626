pub mod Binds
pub mod BoundDoors
pub mod MemBinders
