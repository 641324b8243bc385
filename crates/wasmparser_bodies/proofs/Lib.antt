pub mod AnswerLaws
pub mod BodyLaws
pub mod BodySteps
pub mod CodeLaws
pub mod CodeMeaning
pub mod FrontLaws
mod LargeIndexes
mod LocalLaws
pub mod LocalsLaws
pub mod LocalsMeaning
pub mod LocalsSteps
mod NoOperators
mod OperatorLengths
mod Places
pub mod Runs
mod Stacked
mod TailLaws
mod Taking
