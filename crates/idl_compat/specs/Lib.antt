pub mod Both
pub mod Laws
pub mod Lines
pub mod Numbers
pub mod Order
pub mod Walks
pub mod Within
