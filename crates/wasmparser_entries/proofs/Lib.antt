mod CheckLaws
mod EntryLaws
mod EntrySteps
pub mod ExpressionLaws
mod GroupLaws
mod ItemLaws
mod ListLaws
mod OperatorLaws
mod PackedEntryLaws
mod ShortLaws
