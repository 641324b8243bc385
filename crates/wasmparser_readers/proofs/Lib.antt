mod CodeLaws
mod HeapLaws
mod ItemLaws
pub mod ItemSteps
pub mod MappedReading
pub mod ModuleLaws
pub mod PackedItemLaws
pub mod PackedLaws
mod PackedSteps
pub mod PassingLaws
pub mod SectionLaws
mod ValLaws
