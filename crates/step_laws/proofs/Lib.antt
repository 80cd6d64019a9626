pub mod Steps
pub mod Whole
mod Conditions
mod Expressions
mod FittingTypes
mod KeptOrder
mod Outcomes
mod Parted
mod Referred
mod SameTypes
mod StructValues
mod ValueParts
