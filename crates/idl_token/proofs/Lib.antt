pub mod OneList
pub mod Places
pub mod Starts
pub mod Utf8Items
