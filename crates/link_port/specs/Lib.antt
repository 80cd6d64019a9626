pub mod DataCode
pub mod Faults
pub mod FileReads
pub mod Flow
pub mod InMemory
pub mod Planned
pub mod SoundTrees
pub mod formers
