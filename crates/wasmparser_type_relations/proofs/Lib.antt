pub mod ChainLaws
mod CompositeKinds
pub mod Deciding
mod Earlier
mod Fronts
mod HeapLaws
pub mod Ids
mod KeptChains
pub mod KeyLaws
mod KeyLookups
pub mod Mapped
mod Places
mod TopLaws
