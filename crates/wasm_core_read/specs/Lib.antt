pub mod ConstantReading
pub mod Input
pub mod Laws
pub mod ModuleReading
pub mod PartReading
pub mod Reading
pub mod TypeReading
