pub mod Pieces
pub mod Held
pub mod Room
pub mod Steps
pub mod Runs
pub mod Lending
