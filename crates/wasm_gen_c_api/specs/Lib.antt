pub mod Buffers
pub mod Codes
pub mod ConfigTexts
pub mod Generate
pub mod Report
pub mod Verdicts
