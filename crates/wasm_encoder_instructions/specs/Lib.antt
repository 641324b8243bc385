pub mod AlignedInstructions
pub mod Codes
pub mod Immediates
pub mod Instructions
pub mod OperatorEncodings
pub mod ScalarRows
pub mod SmallOperators
pub mod WrittenImmediates
