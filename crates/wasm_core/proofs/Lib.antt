pub mod Rows
pub mod WritingLaws
