pub mod NothingDone
pub mod OneLine
