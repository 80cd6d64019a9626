pub mod Limits
pub mod Asked
pub mod Taken
pub mod Stands
pub mod Gathering
pub mod Passing
pub mod Exchanges
pub mod OneReply
