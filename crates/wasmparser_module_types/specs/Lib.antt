pub mod Greatest
pub mod History
pub mod ModuleTypes
pub mod ShapeCodes
pub mod TreeCodes
pub mod WithIds
