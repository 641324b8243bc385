pub mod CompositeTypes
pub mod HeapTypes
pub mod Index
pub mod RecGroups
pub mod RefBits
pub mod SubTypes
pub mod UnpackedIndex
pub mod ValTypes
