mod BlockIndexes
mod BorrowedLaws
mod CodeGaps
pub mod CodeTables
pub mod ImmediateForms
mod ImmediateLaws
pub mod KeptLaws
pub mod OperatorForms
mod OperatorLaws
mod OtherCodes
pub mod ReaderLaws
mod UnreadParts
