pub mod ExportNames
pub mod ImportNames
pub mod ImportedItems
pub mod KeptExports
pub mod KeptImports
pub mod KeptName
pub mod ModuleNames
