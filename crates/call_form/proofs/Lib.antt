pub mod CallLemmas
pub mod ReplyLemmas
pub mod ReadBack
pub mod Utf8Texts
pub mod TextLemmas
pub mod MessagesBack
