pub mod Agreement
mod ChainsOfTypes
mod Depths
mod DistinctTypes
pub mod GroupTypes
pub mod IdLaws
mod IdRanges
mod Indexes
pub mod InternedGroups
pub mod KeptGroups
mod KeptReferences
mod KeyTrees
mod LaterGroups
pub mod MarkedTrees
pub mod TableLaws
pub mod WholeGroups
