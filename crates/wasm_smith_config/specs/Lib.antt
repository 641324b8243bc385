pub mod Config
pub mod Defaults
pub mod Fields
pub mod Rows
pub mod Instructions
pub mod Offsets
pub mod Arbitrary
