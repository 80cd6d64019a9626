pub mod ReplyOf
pub mod ReplyRules
pub mod Kinds
pub mod HeadOf
pub mod Compact
pub mod CallBytes
pub mod MessagesBack
pub mod FaultTexts
