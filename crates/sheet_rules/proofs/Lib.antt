pub mod Folded
pub mod KeysRise
pub mod Lengths
pub mod Naming
pub mod Opened
