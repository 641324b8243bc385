mod AggregateLaws
mod AloneLaws
mod FunctionLaws
mod Meanings
mod OperandLists
pub mod SeenLaws
pub mod Spaces
pub mod StepLaws
pub mod TakingLaws
pub mod WantedTypes
