pub mod Custom
pub mod NameLists
pub mod SubsectionLists
pub mod ProducerLists
pub mod HintLists
pub mod DumpLists
pub mod StackLists
pub mod SymbolLists
