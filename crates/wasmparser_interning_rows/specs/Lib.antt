pub mod CheckedLists
pub mod CheckedSections
