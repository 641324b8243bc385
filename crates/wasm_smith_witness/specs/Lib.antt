pub mod Asking
pub mod Examples
pub mod Family
pub mod Functions
pub mod Groups
pub mod Spelling
pub mod Words
