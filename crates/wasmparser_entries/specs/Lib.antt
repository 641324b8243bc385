pub mod ConstExprs
pub mod ConstOperators
pub mod Entries
pub mod ImportEntries
pub mod ImportGroups
pub mod ImportItems
pub mod Lists
pub mod PackedEntries
