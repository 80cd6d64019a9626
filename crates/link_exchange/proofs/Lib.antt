pub mod TakenLemmas
pub mod GatherLemmas
pub mod PassLemmas
pub mod TakeLemmas
pub mod SendLemmas
pub mod TakingLemmas
pub mod TookLemmas
pub mod OneReply
