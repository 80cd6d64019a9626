pub mod Doors
pub mod Hosts
pub mod Rounds
pub mod Resolvers
pub mod Porters
