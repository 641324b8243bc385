pub mod CoreTypes
pub mod Features
pub mod Limits
pub mod SubTypes
