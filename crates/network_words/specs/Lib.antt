pub mod Settings
pub mod Given
pub mod Numbers
pub mod Meanings
