mod AbstractBits
mod EqualityLaws
pub mod Remapping
