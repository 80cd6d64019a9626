pub mod OneAnswer
pub mod MethodForms
