pub mod CallOf
pub mod CallText
pub mod ReplyText
pub mod StdErrors
pub mod CallRules
pub mod TextsBack
