pub mod TypeReading
pub mod Types
