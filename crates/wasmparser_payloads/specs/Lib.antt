pub mod EntryReading
pub mod Locals
pub mod Modules
pub mod Parsing
pub mod PieceEntries
pub mod Pieces
