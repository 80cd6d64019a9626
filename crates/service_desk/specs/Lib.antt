pub mod Boards
pub mod Seats
pub mod Hearing
pub mod Gains
