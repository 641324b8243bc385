mod AddedGroups
pub mod Comparisons
mod EnteredGroups
mod FuncTypes
mod GroupIds
mod KeptSubTypes
mod KnownIds
mod Refusals
mod ReplacedIndexes
