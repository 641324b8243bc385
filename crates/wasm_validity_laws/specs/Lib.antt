pub mod KnownImports
pub mod NamedTypes
pub mod ShapeCodes
pub mod TreeCodes
pub mod WantedTypes
pub mod Written
