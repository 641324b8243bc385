pub mod Fields
pub mod Settings
pub mod Filled
pub mod Outcome
pub mod Shown
