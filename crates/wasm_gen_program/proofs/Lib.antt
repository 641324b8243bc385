mod CheckInputsLaws
pub mod Examples
mod ExplanationLaws
pub mod Faults
pub mod Found
mod NamedCommand
pub mod Plain
mod ReadLaws
mod RunLaws
mod ValuesThere
mod WriteLaws
