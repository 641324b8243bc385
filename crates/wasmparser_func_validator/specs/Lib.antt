pub mod FromBytes
pub mod NumericForms
pub mod Plain
pub mod Refusals
pub mod Steps
pub mod Validation
