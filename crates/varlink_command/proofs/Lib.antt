pub mod Joining
pub mod SessionLemmas
pub mod Telling
pub mod Counting
pub mod Reasons
pub mod ReadingBoth
pub mod Refusing
pub mod WorkLines
