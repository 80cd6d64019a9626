pub mod OneLine
pub mod Answering
