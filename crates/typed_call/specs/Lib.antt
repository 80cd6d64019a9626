pub mod Typed
pub mod Describing
pub mod TypedCalls
