pub mod Answered
pub mod Dividing
pub mod Lists
pub mod Moments
pub mod Sharing
pub mod Steps
