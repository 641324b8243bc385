mod BeforeInterning
pub mod CanonicalGroups
mod GroupLaws
mod GroupsInOrder
mod Internable
mod Interned
mod ItemLaws
mod Judged
mod KindLaws
pub mod KnownIds
mod KnownTypes
mod MappedGates
mod Members
mod OwnTypes
mod RuleLaws
mod SingleTypes
