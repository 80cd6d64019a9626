pub mod Changing
pub mod EntriesBack
pub mod KnownDepths
pub mod Leveled
pub mod Runs
pub mod SmallDeeds
pub mod Spots
