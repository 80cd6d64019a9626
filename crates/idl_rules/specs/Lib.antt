pub mod Canon
pub mod Grammar
pub mod Items
pub mod Settle
pub mod Spells
pub mod Reading
