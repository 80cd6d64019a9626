pub mod Asking
pub mod Addresses
pub mod Descriptions
pub mod FaultTexts
