pub mod RunLemmas
pub mod WriteLemmas
pub mod WentLemmas
pub mod ServeLemmas
pub mod StreamLemmas
pub mod TellLemmas
pub mod SentLemmas
