pub mod Asks
pub mod Faults
pub mod Histories
pub mod Passes
pub mod Seats
pub mod Turns
