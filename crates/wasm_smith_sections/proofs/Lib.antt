mod BodyBytes
pub mod CodeTypes
mod FilledParts
mod Forms
pub mod ItemLaws
mod LocalTypes
mod MadeSections
mod ReadConstants
mod ReadContents
mod ReadItems
pub mod SeenRuns
mod SmallItems
mod SmallSegments
pub mod TypeGroups
mod WrittenFrames
