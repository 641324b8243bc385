pub mod CoreEncodings
pub mod CoreRecGroups
pub mod EncodeErrors
pub mod Encoding
pub mod ModuleBytes
