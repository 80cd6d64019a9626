mod TextFields
mod Rows
mod Accepted
pub mod Replies
