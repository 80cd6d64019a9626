pub mod CanonSpells
pub mod Laid
pub mod LaidTrees
pub mod Lexing
pub mod Lines
pub mod NameWords
pub mod RoomLaws
