pub mod Operands
pub mod Scopes
pub mod Steps
