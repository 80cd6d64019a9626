pub mod Flowing
pub mod Sharing
pub mod Utf8Views
