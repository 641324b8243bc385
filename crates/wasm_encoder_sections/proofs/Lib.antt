pub mod ItemLists
pub mod KeptLoops
pub mod ImportLists
pub mod ShortestEntities
pub mod ShortestImports
pub mod ShortestSections
