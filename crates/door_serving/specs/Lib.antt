pub mod Stops
pub mod Conversations
pub mod Attended
pub mod Resolving
