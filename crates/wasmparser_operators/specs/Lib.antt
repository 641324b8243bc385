pub mod BorrowedLists
pub mod CodeTables
pub mod OperatorAnswers
pub mod OperatorReading
pub mod OperatorValues
pub mod ScalarValues
