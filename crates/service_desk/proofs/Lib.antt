mod Stepping
mod Rows
pub mod Hearing
mod Answering
pub mod SetSharing
pub mod SheetSharing
pub mod Sharing
