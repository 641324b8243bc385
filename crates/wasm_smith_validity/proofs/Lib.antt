pub mod AlikeFeatures
pub mod BelowLaws
pub mod CustomSections
mod FunctionTypes
pub mod GroupLaws
pub mod IndexedContext
mod LocalRuns
pub mod MadeGroups
pub mod MadeSections
pub mod MeantConstants
pub mod MeantEntries
pub mod MeantItems
pub mod MeantTypes
mod SectionItems
pub mod SmallIndexes
mod TypedBodies
pub mod ValidModules
pub mod WalkLaws
