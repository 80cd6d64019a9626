pub mod NulLemmas
pub mod PieceLemmas
pub mod RunLemmas
