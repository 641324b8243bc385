mod Closing
pub mod Endings
mod Finishing
pub mod HeldOptions
pub mod MappedBlocks
pub mod MappedBodies
pub mod MappedEffects
pub mod MappedFunctions
pub mod MappedItems
pub mod MappedMachines
pub mod MappedOperands
pub mod MappedOptions
pub mod MappedSignatures
mod Prefixes
pub mod Runs
pub mod Steps
pub mod WantedChoices
pub mod WantedFrames
pub mod WantedTypes
pub mod Whole
