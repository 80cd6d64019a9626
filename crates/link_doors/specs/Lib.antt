pub mod Addresses
pub mod Visits
pub mod Accepts
pub mod Connections
pub mod Doors
