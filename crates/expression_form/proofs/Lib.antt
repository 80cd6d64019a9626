pub mod After
pub mod BodyReads
pub mod DraftOpens
pub mod FirstPlaces
pub mod MadeGives
pub mod Opens
pub mod Typed
