pub mod ReplyLemmas
pub mod TreeLemmas
pub mod KindLemmas
pub mod FoundLemmas
pub mod CompactLemmas
pub mod CallPieces
pub mod TextsBack
