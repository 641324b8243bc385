mod KeptExports
mod KeptImports
mod Keys
mod ModuleNames
mod Names
