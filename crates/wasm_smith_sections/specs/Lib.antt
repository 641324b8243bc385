pub mod Contents
pub mod FilledSections
pub mod ItemViews
pub mod ModuleEncoding
pub mod ModuleItems
pub mod SmallModules
