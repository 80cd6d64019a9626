pub mod Faults
pub mod Lex
